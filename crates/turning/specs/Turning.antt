-- What #114 speaks of, "One field turned, one record changed", said of the bits of two values and of the lines of 01's tables, as a reading is.
use Rattle.std.specs.Prelude.{ℕ, ◌+◌, ◌≤◌, Bool, true, false, cond, ◌&&◌, ◌≡◌, eqb, take}
use mathlib.Core.List.{List, [], ◌∷◌, ◌++◌, map, Memᴰ}
use Rattle.texts.specs.Rules.{system_register}
use Rattle.records.specs.declared.Record.{Record}
use Rattle.records.specs.declared.Row.{Row}
use Rattle.tables.specs.Shape.{Test, Condition, Line, Table}
use Rattle.tables.specs.Tables.{class, iss_under, top_rows, Served}
use Rattle.reading.specs.Reading.{HasBits, Applying, Classed}

-- a field by its bits, those of a row, and those that a test asks
pub record Field : Type 0 where
  pub start : ℕ
  pub width : ℕ

abbrev pub bits_of : Row → Field
bits_of r = record { start = r.start; width = r.width }

abbrev pub asked_by : Test → Field
asked_by t = record { start = t.start; width = t.width }

-- fields compared, whether a field is on a list, and a list of fields with each once
abbrev pub same : Field → Field → Bool
same f g = eqb f.start g.start && eqb f.width g.width

abbrev pub on_list : Field → List Field → Bool
on_list f [] = false
on_list f (g ∷ gs) = cond (same f g) true (on_list f gs)

abbrev pub without : Field → List Field → List Field
without f [] = []
without f (g ∷ gs) = cond (same f g) (without f gs) (g ∷ without f gs)

abbrev pub once : List Field → List Field
once [] = []
once (f ∷ fs) = f ∷ without f (once fs)

-- "differ only inside one leaf field": the same bits stand above it, and the same below it
pub record DifferInside (f : Field) (v w : ℕ) : Type 0 where
  pub old : ℕ
  pub new : ℕ
  pub first : HasBits v f.start f.width old
  pub second : HasBits w f.start f.width new
  pub above : first.above ≡ second.above
  pub below : first.below ≡ second.below

-- 01: "Leaves are the first four and ISS's fields, or ISS itself where it has none". Of the top rows ISS is the fifth; it always has fields (`divided`)
abbrev pub leaf_rows : ℕ → List Row → List Row
leaf_rows rule rows = take 4 (top_rows rule) ++ rows

-- "which no condition of their class names". Named are the class, by which the table is found, and what the conditions of the table's lines ask
abbrev pub tests_in : List Condition → List Test
tests_in [] = []
tests_in (c ∷ cs) = c.test ∷ tests_in cs

abbrev pub tests_of : List Line → List Test
tests_of [] = []
tests_of (l ∷ ls) = tests_in l.conditions ++ tests_of ls

abbrev pub named_in : Table → List Field
named_in t = bits_of class ∷ map asked_by (tests_of t.lines)

-- a leaf of a value, by the rows that apply to it, whose field is not named. IMPDEF of an SError is one: it has the bits of the status, and is not the status
pub record Unnamed (v : ℕ) (row : Row) : Type 0 where
  pub served : Served
  pub classed : Classed v served
  pub rows : List Row
  pub applying : Applying v served.table.lines rows
  pub leaf : Memᴰ row (leaf_rows served.table.iss_rule rows)
  pub unnamed : Memᴰ (bits_of row) (named_in served.table) → ⊥

-- two records of one row: all but the value and the text is the same
pub record SameRow (x y : Record) : Type 0 where
  pub start : x.start ≡ y.start
  pub width : x.width ≡ y.width
  pub name : x.name ≡ y.name
  pub long : x.long ≡ y.long
  pub mark : x.mark ≡ y.mark

-- "if it lies in ISS", bits 0..25
abbrev pub InIss : Row → Type 0
InIss r = r.start + r.width ≤ 25

-- "its text from #108": ISS has the text of the system register that it names under this rule
abbrev pub names_register : ℕ → Bool
names_register rule = eqb rule system_register.number

-- "every record is equal except that field's and, if it lies in ISS, the ISS record's value and its text from #108": x and y are the records of a row
-- before and after
pub data Stands (turned row : Row) (x y : Record) : Type 0 where
  equal : x ≡ y → Stands turned row x y
  field : row ≡ turned → SameRow x y → Stands turned row x y
  iss : {rule : ℕ} → row ≡ iss_under rule → InIss turned → SameRow x y → (names_register rule ≡ false → x.text ≡ y.text) → Stands turned row x y

-- every record, row by row
pub data StandAll (turned : Row) : List Row → List Record → List Record → Type 0 where
  none : StandAll turned [] [] []
  more : {row : Row} {x y : Record} {rows : List Row} {xs ys : List Record} → Stands turned row x y → StandAll turned rows xs ys
      → StandAll turned (row ∷ rows) (x ∷ xs) (y ∷ ys)

-- "both readings have the same rows", and these are their records
pub record OneTurned (turned : Row) (v w : ℕ) (l k : List Record) : Type 0 where
  pub served : Served
  pub first : Classed v served
  pub second : Classed w served
  pub rows : List Row
  pub before : Applying v served.table.lines rows
  pub after : Applying w served.table.lines rows
  pub stand : StandAll turned (top_rows served.table.iss_rule ++ rows) l k
