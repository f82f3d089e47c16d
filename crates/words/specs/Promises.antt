-- What the public function promises. A promise takes what comes in, then what comes out.
use Rattle.std.specs.Prelude.{ℕ, Bool, List, ◌≡◌}
use Rattle.words.specs.Words.{same}

-- whether two words are the same
abbrev pub Compared : List ℕ × List ℕ → Bool → Type 0
Compared (word, other) r = r ≡ same word other
