-- 01's table of refusals: the number of each reason, and a refusal with what it carries.
use Rattle.std.specs.Prelude.{ℕ, Bool, cond, not, List, [], ◌∷◌, eqb, Result, Ok, Err}
use Rattle.refusals.specs.declared.Reason.{Reason}
use Rattle.refusals.specs.declared.Reason.TheVariants.{None, InvalidRes0, InvalidEc, InvalidFsc, InvalidSet, InvalidAet, InvalidAm, InvalidLd64bIss, Empty, InvalidDigit, PosOverflow, ShortBuffer, BadField, BadIndex, ShortEntry, BadLength, BadVersion, BadTable, LongRun, LongBlock, NoLayout, WideLeaf, BadRest, InvalidWu, InvalidVncr, ShortSheet, BadSheetVersion, LongPhrase, CodeNotRising}
use Rattle.refusals.specs.declared.Refusal.{Refusal}

-- 0 where nothing is refused
abbrev pub reason_number : Reason → ℕ
reason_number None = 0
reason_number InvalidRes0 = 1
reason_number InvalidEc = 2
reason_number InvalidFsc = 3
reason_number InvalidSet = 4
reason_number InvalidAet = 5
reason_number InvalidAm = 6
reason_number InvalidLd64bIss = 7
reason_number Empty = 8
reason_number InvalidDigit = 9
reason_number PosOverflow = 10
reason_number ShortBuffer = 11
reason_number BadField = 12
reason_number BadIndex = 13
reason_number ShortEntry = 14
reason_number BadLength = 15
reason_number BadVersion = 16
reason_number BadTable = 18
reason_number LongRun = 19
reason_number LongBlock = 20
reason_number NoLayout = 21
reason_number WideLeaf = 22
reason_number BadRest = 23
reason_number InvalidWu = 24
reason_number InvalidVncr = 25
reason_number ShortSheet = 26
reason_number BadSheetVersion = 27
reason_number LongPhrase = 28
reason_number CodeNotRising = 29

-- the numbers of 01's table and of 02's requests, and 0. 17 is unused for good (02's #111)
unfoldable pub numbers : List ℕ
numbers = 0 ∷ 1 ∷ 2 ∷ 3 ∷ 4 ∷ 5 ∷ 6 ∷ 7 ∷ 8 ∷ 9 ∷ 10 ∷ 11 ∷ 12 ∷ 13 ∷ 14 ∷ 15 ∷ 16 ∷ 18 ∷ 19 ∷ 20 ∷ 21 ∷ 22 ∷ 23 ∷ 24 ∷ 25 ∷ 26 ∷ 27 ∷ 28 ∷ 29 ∷ []

abbrev pub refusal_number : Refusal → ℕ
refusal_number f = reason_number f.reason

-- #105: "Refusal 1 shall carry the field's start and width besides its value": the reserved field of these bits
abbrev pub reserved_bits : ℕ → ℕ → ℕ → Refusal
reserved_bits start width c = record { carries = c; start = start; width = width; reason = InvalidRes0 }

-- "Other refusals carry 0 for both": one that carries this; one that carries nothing; nothing refused
abbrev pub carrying : Reason → ℕ → Refusal
carrying reason c = record { carries = c; start = 0; width = 0; reason = reason }

abbrev pub bare : Reason → Refusal
bare reason = carrying reason 0

abbrev pub no_refusal : Refusal
no_refusal = bare None

-- nothing is refused
abbrev pub passed : Refusal → Bool
passed f = eqb (refusal_number f) 0

abbrev pub is_refused : Refusal → Bool
is_refused f = not (passed f)

-- a refusal as an error; nothing where nothing is refused
abbrev pub checked : Refusal → Result Unit Refusal
checked f = cond (passed f) (Ok tt) (Err f)
