-- What a strict reading is: an ordinary reading whose rows also meet the strict list, said of the value's bits as a reading is; and when strict alone refuses.
use Rattle.std.specs.Prelude.{ℕ, Bool, true, ◌⊎◌, ◌≡◌}
use mathlib.Core.List.{List, ◌∷◌, Memᴰ}
use Rattle.refusals.specs.declared.Refusal.{Refusal}
use Rattle.records.specs.declared.Record.{Record}
use Rattle.records.specs.declared.Row.{Row}
use Rattle.reading.specs.Reading.{HasBits, Reading}
use Rattle.strict.specs.Stricter.{Stricter, stricter, refusal_by}

-- "unless the caller says that the core has nested virtualisation"
abbrev pub Excused : Bool → Stricter → Type 0
Excused nested d = (nested ≡ true) × (d.excused ≡ true)

-- the row's field is one of the numbers that this line allows
pub record Allows (v : ℕ) (d : Stricter) : Type 0 where
  pub value : ℕ
  pub has : HasBits v d.row.start d.row.width value
  pub among : Memᴰ value d.allowed

-- a row is as each line of the list asks that has this row
abbrev pub Strictly : Bool → ℕ → Row → Type 0
Strictly nested v row = (d : Stricter) → Memᴰ d stricter → d.row ≡ row → Excused nested d ⊎ Allows v d

pub record StrictReading (nested : Bool) (v : ℕ) (l : List Record) : Type 0 where
  pub ordinary : Reading v l
  pub strict : (row : Row) → Memᴰ row ordinary.rows → Strictly nested v row

-- a row is not as a line of the list asks, and the refusal is that of the line
pub record Fails (nested : Bool) (v : ℕ) (row : Row) (f : Refusal) : Type 0 where
  pub line : Stricter
  pub listed : Memᴰ line stricter
  pub same : line.row ≡ row
  pub unexcused : Excused nested line → ⊥
  pub value : ℕ
  pub has : HasBits v row.start row.width value
  pub outside : Memᴰ value line.allowed → ⊥
  pub refusal : f ≡ refusal_by line value

-- "high bits first": the rows of a reading run from high bits to low
pub data First (nested : Bool) (v : ℕ) (f : Refusal) : List Row → Type 0 where
  here : {row : Row} {rows : List Row} → Fails nested v row f → First nested v f (row ∷ rows)
  later : {row : Row} {rows : List Row} → Strictly nested v row → First nested v f rows → First nested v f (row ∷ rows)

-- strict alone refuses a value, by f: "its checks run after all ordinary ones"
pub record StrictRefusing (nested : Bool) (v : ℕ) (f : Refusal) : Type 0 where
  pub list : List Record
  pub ordinary : Reading v list
  pub first : First nested v f ordinary.rows
