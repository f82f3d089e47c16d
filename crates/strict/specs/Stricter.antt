-- #110's stricter view as data beside 01's tables: rows of theirs, the numbers that the manual allows there, the refusal of another number, and
-- whether nested virtualisation excuses it.
use Rattle.std.specs.Prelude.{ℕ, Bool, true, false, List, [], ◌∷◌}
use Rattle.texts.specs.Rules.{am, plain, wu}
use Rattle.refusals.specs.declared.Reason.{Reason}
use Rattle.refusals.specs.declared.Reason.TheVariants.{InvalidAm, InvalidRes0, InvalidVncr, InvalidWu}
use Rattle.refusals.specs.declared.Refusal.{Refusal}
use Rattle.records.specs.Kinds.{Coded, Free, Unchecked}
use Rattle.records.specs.declared.Row.{Row}
use Rattle.tables.specs.Shape.{Line, bits, unnamed}
use Rattle.strict.specs.declared.Tells.{Tells}
use Rattle.strict.specs.declared.Tells.TheVariants.{Nothing, Number, Field}

-- a row; the numbers that strict allows of those that the ordinary decoder does; why it refuses another, and what the refusal tells besides: nothing, the
-- field's number, or that and the field's bits (#105); and whether it is excused where the core has nested virtualisation
pub record Stricter : Type 0 where
  pub row : Row
  pub allowed : List ℕ
  pub reason : Reason
  pub tells : Tells
  pub excused : Bool

abbrev pub asked : Line → List ℕ → Reason → Tells → Bool → Stricter
asked line allowed reason tells excused = record { row = line.row; allowed = allowed; reason = reason; tells = tells; excused = excused }

-- "the unchecked reserved field of aborts must be 0, WU 1 is refused, AM 4 and 6 are refused with number 6, and VNCR must be 0 unless the caller says
-- that the core has nested virtualisation"; from high bits to low. Of AM 5 and 7 the ordinary decoder refuses.
unfoldable pub stricter : List Stricter
stricter =
    asked (bits 16 18 "WU" "Write Update" Free wu) (0 ∷ 2 ∷ 3 ∷ []) InvalidWu Nothing false ∷
    asked (bits 13 14 "VNCR" unnamed Free plain) (0 ∷ []) InvalidVncr Nothing true ∷
    asked (bits 11 13 "RES0" "Reserved" Unchecked plain) (0 ∷ []) InvalidRes0 Field false ∷
    asked (bits 1 4 "AM" "Addressing Mode" (Coded InvalidAm) am) (0 ∷ 1 ∷ 2 ∷ 3 ∷ []) InvalidAm Number false ∷
    []

-- 01: "Numbers added by later requests carry 0 unless said there": 24 and 25; 6 carries AM, and 1 the field's number, with its start and width
abbrev pub telling : Tells → ℕ → ℕ → Reason → ℕ → Refusal
telling Nothing start width reason x = record { carries = 0; start = 0; width = 0; reason = reason }
telling Number start width reason x = record { carries = x; start = 0; width = 0; reason = reason }
telling Field start width reason x = record { carries = x; start = start; width = width; reason = reason }

abbrev pub refusal_by : Stricter → ℕ → Refusal
refusal_by d x = telling d.tells d.row.start d.row.width d.reason x
