-- When a value is refused, and how: "First 37..64 must be 0, then the class is looked up, then the layout's checks in the order given; the
-- first failure answers." Said of the value's bits, as a reading is.
use Rattle.std.specs.Prelude.{◌≡◌, ℕ, List, [], ◌∷◌, ◌≢◌}
use mathlib.Core.List.{Memᴰ}
use Rattle.refusals.specs.declared.Reason.{Reason}
use Rattle.refusals.specs.declared.Reason.TheVariants.{InvalidRes0}
use Rattle.refusals.specs.declared.Refusal.{Refusal}
use Rattle.records.specs.Kinds.{Kind}
use Rattle.records.specs.Kinds.{Coded, Checked}
use Rattle.records.specs.Rows.{row_kind}
use Rattle.records.specs.declared.Row.{Row}
use Rattle.tables.specs.Tables.{reserved, class, Served}
use Rattle.reading.specs.Reading.{HasBits, Applying, Listed, Allowed, Classed}

-- the numbers that a value can be refused by
abbrev pub refusing : List ℕ
refusing = 1 ∷ 2 ∷ 3 ∷ 4 ∷ 5 ∷ 6 ∷ 7 ∷ []

-- a row's field of a value is as the row asks
pub record Met (v : ℕ) (row : Row) : Type 0 where
  pub value : ℕ
  pub has : HasBits v row.start row.width value
  pub allowed : Allowed (row_kind row) row.rule value

-- a refusal names these bits by start and width (#105)
abbrev pub Names : Refusal → ℕ → ℕ → Type 0
Names f start width = (f.start ≡ start) × (f.width ≡ width)

-- it is not, and the refusal carries it: "1, a checked reserved field isn't 0", and the field is named; the others, a coded field is not on its
-- list, for the reason that the row names: "Other refusals carry 0 for both"
pub data Unmet (v : ℕ) (row : Row) (f : Refusal) : Type 0 where
  not_zero : HasBits v row.start row.width f.carries → row_kind row ≡ Checked → f.reason ≡ InvalidRes0 → Names f row.start row.width
      → (f.carries ≢ 0) → Unmet v row f
  not_listed : HasBits v row.start row.width f.carries → row_kind row ≡ Coded f.reason → Names f 0 0
      → (Listed row.rule f.carries → ⊥) → Unmet v row f

-- a kind that asks something
pub data IsCheck : Kind → Type 0 where
  coded : {reason : Reason} → IsCheck (Coded reason)
  checked : IsCheck Checked

-- a row of those that apply which starts at s and asks something
pub record CheckAt (rows : List Row) (s : ℕ) (row : Row) : Type 0 where
  pub among : Memᴰ row rows
  pub starts : row.start ≡ s
  pub is_check : IsCheck (row_kind row)

-- the rows that ask something, in the order of their starts that the table gives; a start without such a row has no check
pub data Ordered (rows : List Row) : List ℕ → List Row → Type 0 where
  none : Ordered rows [] []
  check : {s : ℕ} {ss : List ℕ} {row : Row} {cs : List Row} → CheckAt rows s row → Ordered rows ss cs → Ordered rows (s ∷ ss) (row ∷ cs)
  away : {s : ℕ} {ss : List ℕ} {cs : List Row} → ((row : Row) → CheckAt rows s row → ⊥) → Ordered rows ss cs → Ordered rows (s ∷ ss) cs

-- all checks of a value in 01's order; a class that no layout serves is not on the list of EC, so that its check is the last
pub data Checks (v : ℕ) : List Row → Type 0 where
  unserved : ((s : Served) → Classed v s → ⊥) → Checks v (reserved ∷ class ∷ [])
  served : {s : Served} {rows cs : List Row} → Classed v s → Applying v s.table.lines rows → Ordered rows s.table.order cs
      → Checks v (reserved ∷ class ∷ cs)

-- the first failure
pub data First (v : ℕ) (f : Refusal) : List Row → Type 0 where
  here : {row : Row} {rows : List Row} → Unmet v row f → First v f (row ∷ rows)
  later : {row : Row} {rows : List Row} → Met v row → First v f rows → First v f (row ∷ rows)

-- a value is refused by f
pub record Refusing (v : ℕ) (f : Refusal) : Type 0 where
  pub checks : List Row
  pub order : Checks v checks
  pub first : First v f checks
