-- What each public function promises: of what comes in and what the buffer holds before, the next offset and what the buffer holds after.
use Rattle.std.specs.Prelude.{ℕ, List}
use Rattle.buffer.specs.Appending.{Appends}
use Rattle.digits.specs.Digits.{digits_of, numeral, radix_of}
use Rattle.digits.specs.declared.Base.{Base}

-- so many digits of a number
abbrev pub DigitsPut : List ℕ × ℕ × Base × ℕ × ℕ → ℕ × List ℕ → Type 0
DigitsPut (before, at, base, count, value) out = Appends (digits_of (radix_of base) count value) (at, before) out

-- the fewest that hold it
abbrev pub NumberPut : List ℕ × ℕ × Base × ℕ → ℕ × List ℕ → Type 0
NumberPut (before, at, base, value) out = Appends (numeral (radix_of base) value) (at, before) out
