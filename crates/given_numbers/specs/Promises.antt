-- What each public function promises. A promise takes what comes in, then what comes out.
use Rattle.std.specs.Prelude.{ℕ, List, ◌≡◌}
use Rattle.given_numbers.specs.Given.{at_start, take_bytes, take_last}
use Rattle.given_numbers.specs.declared.Given.{Given}
use Rattle.given_numbers.specs.declared.Reading.{Reading}

-- where the reading stands before the first byte
abbrev pub Started : Unit {0} → Reading → Type 0
Started i r = r ≡ at_start

-- where it stands after a part of the input, and the numbers that are kept
abbrev pub PartTaken : Reading × List ℕ × List ℕ → Reading × List ℕ → Type 0
PartTaken (from, part, kept) out = out ≡ take_bytes (from, kept) part

-- what was given in all, at the end of the input, and the numbers that are kept
abbrev pub LastTaken : Reading × List ℕ → Given × List ℕ → Type 0
LastTaken (read, kept) out = out ≡ take_last (read, kept)
