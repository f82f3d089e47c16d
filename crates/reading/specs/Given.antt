-- 01's table of refusals, "given when" and "carries", in plain bits: what is so of a value that is refused by f.
use Rattle.std.specs.Prelude.{◌≡◌, ℕ, ◌<◌, List, [], ◌∷◌, ◌≢◌}
use mathlib.Core.List.{Memᴰ}
use Rattle.texts.specs.Rules.{debug_status, fault_status, serror_status}
use Rattle.refusals.specs.declared.Reason.TheVariants.{InvalidRes0, InvalidEc, InvalidFsc, InvalidSet, InvalidAet, InvalidAm, InvalidLd64bIss}
use Rattle.refusals.specs.declared.Refusal.{Refusal}
use Rattle.records.specs.Kinds.{Checked}
use Rattle.records.specs.Rows.{row_kind}
use Rattle.records.specs.declared.Row.{Row}
use Rattle.tables.specs.Tables.{reserved, Served}
use Rattle.reading.specs.Reading.{HasBits, Applying, Listed, Classed}
use Rattle.reading.specs.Refusing.{Names, Met, Checks}

-- the class of a value is one of these
pub record ClassIn (v : ℕ) (classes : List ℕ) : Type 0 where
  pub class : ℕ
  pub has : HasBits v 26 6 class
  pub among : Memᴰ class classes

-- a row by which a value is read: the top one, RES0 37..64, or one of its class's layout that applies to it
pub data RowOf (v : ℕ) (row : Row) : Type 0 where
  at_top : row ≡ reserved → RowOf v row
  in_iss : {s : Served} {rows : List Row} → Classed v s → Applying v s.table.lines rows → Memᴰ row rows → RowOf v row

-- "a checked reserved field", "that field's value, shifted down"; #105: the field's start and width
pub record Reserved (v : ℕ) (f : Refusal) : Type 0 where
  pub row : Row
  pub of : RowOf v row
  pub kind : row_kind row ≡ Checked
  pub names : Names f row.start row.width
  pub has : HasBits v row.start row.width f.carries

-- #105: "The first failing field in 01's order is the one named." Of some checks, those before it are met, and it is a checked reserved field of
-- these bits, which are x and not 0
pub data FirstReserved (v start width x : ℕ) : List Row → Type 0 where
  here : {row : Row} {rows : List Row} → row_kind row ≡ Checked → row.start ≡ start → row.width ≡ width → HasBits v start width x → (x ≢ 0)
      → FirstReserved v start width x (row ∷ rows)
  later : {row : Row} {rows : List Row} → Met v row → FirstReserved v start width x rows → FirstReserved v start width x (row ∷ rows)

-- the same of all checks of a value in 01's order
pub record NotZero (v start width x : ℕ) : Type 0 where
  pub checks : List Row
  pub order : Checks v checks
  pub first : FirstReserved v start width x checks

-- the abort classes, and those of the three debug layouts
abbrev pub aborts : List ℕ
aborts = 0x20 ∷ 0x21 ∷ 0x24 ∷ 0x25 ∷ []

abbrev pub debugs : List ℕ
debugs = 0x30 ∷ 0x31 ∷ 0x32 ∷ 0x33 ∷ 0x34 ∷ 0x35 ∷ []

-- "a status that is read isn't on its list": an abort's, a debug exception's, or that of an SError, which is read where bit 24 is 0
pub data NoStatus (v c : ℕ) : Type 0 where
  of_abort : ClassIn v aborts → (Listed fault_status.number c → ⊥) → NoStatus v c
  of_debug : ClassIn v debugs → (Listed debug_status.number c → ⊥) → NoStatus v c
  of_serror : ClassIn v (0x2F ∷ []) → HasBits v 24 1 0 → (Listed serror_status.number c → ⊥) → NoStatus v c

-- "where AET is read": of an SError with bit 24 at 0, and after its status, which is on its list
pub record AetRead (v : ℕ) : Type 0 where
  pub serror : ClassIn v (0x2F ∷ [])
  pub clear : HasBits v 24 1 0
  pub status : ℕ
  pub has : HasBits v 0 6 status
  pub listed : Listed serror_status.number status

-- 1: "a checked reserved field isn't 0". 2: "class not tabulated". 3: "a status that is read isn't on its list". 4: "status 0x10 in an abort
-- class and SET = 1". 5: "AET 4, 5 or 7 where AET is read". 6: "AM 5 or 7". 7: "class 0x0A, ISS above 2". #105: those but 1 "carry 0 for both".
pub record GivenWhen (v : ℕ) (f : Refusal) : Type 0 where
  pub invalid_res0 : f.reason ≡ InvalidRes0 → Reserved v f × (f.carries ≢ 0)
  pub invalid_ec : f.reason ≡ InvalidEc → HasBits v 26 6 f.carries × ((s : Served) → Classed v s → ⊥)
  pub invalid_fsc : f.reason ≡ InvalidFsc → HasBits v 0 6 f.carries × NoStatus v f.carries
  pub invalid_set : f.reason ≡ InvalidSet → HasBits v 11 2 f.carries × (f.carries ≡ 1) × HasBits v 0 6 0x10 × ClassIn v aborts
  pub invalid_aet : f.reason ≡ InvalidAet → HasBits v 10 3 f.carries × Memᴰ f.carries (4 ∷ 5 ∷ 7 ∷ []) × AetRead v
  pub invalid_am : f.reason ≡ InvalidAm → HasBits v 1 3 f.carries × Memᴰ f.carries (5 ∷ 7 ∷ []) × ClassIn v (0x06 ∷ [])
  pub invalid_ld64b_iss : f.reason ≡ InvalidLd64bIss → HasBits v 0 25 f.carries × (2 < f.carries) × ClassIn v (0x0A ∷ [])
  pub unnamed : (f.reason ≢ InvalidRes0) → Names f 0 0
