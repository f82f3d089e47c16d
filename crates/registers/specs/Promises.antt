-- What the public function promises. A promise takes what comes in, then what comes out.
use Rattle.std.specs.Prelude.{ℕ, ◌≡◌}
use Rattle.registers.specs.Registers.{registers, place_in}

-- the place of a key in the table, 64 where it is not there
abbrev pub Placed : ℕ → ℕ → Type 0
Placed key r = r ≡ place_in registers key
