-- What each public function promises: of what comes in and what the buffer holds before, the next offset and what the buffer holds after.
use Rattle.std.specs.Prelude.{ℕ, List}
use Rattle.buffer.specs.Appending.{Appends}
use Rattle.make_reasons.specs.Reasons.{no_layout, too_wide}

-- of a class, the number of its layout, and how many leaves were given
abbrev pub NoLayoutPut : List ℕ × ℕ × ℕ × ℕ × ℕ → ℕ × List ℕ → Type 0
NoLayoutPut (before, at, class, number, count) out = Appends (no_layout class number count) (at, before) out

-- of what was given, the number of the layout, and an ISS of the set that fits
abbrev pub WidePut : List ℕ × ℕ × ℕ × ℕ × ℕ × ℕ × List ℕ → ℕ × List ℕ → Type 0
WidePut (before, at, il, iss2, number, iss, leaves) out = Appends (too_wide il iss2 number iss leaves) (at, before) out
