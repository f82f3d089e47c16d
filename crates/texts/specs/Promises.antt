-- What each public function promises. A promise takes what comes in, then what comes out.
use Rattle.std.specs.Prelude.{ℕ, List, ◌≡◌}
use Rattle.texts.specs.Pool.{pool, starts}

-- the pool and the starts
abbrev pub Pool : Unit {0} → List ℕ → Type 0
Pool i r = r ≡ pool

abbrev pub Starts : Unit {0} → List ℕ → Type 0
Starts i r = r ≡ starts
