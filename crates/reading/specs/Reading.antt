-- What a reading of a value is, said of the value's bits and of the lines of 01's tables, and of nothing that decodes: "Top records in
-- order: RES0 37..64, ISS2 32..37 (unchecked), EC 26..32 with the class text, IL 25, ISS 0..25, then ISS's own."
use Rattle.std.specs.Prelude.{◌≡◌, ℕ, suc, ◌+◌, ◌*◌, ◌^◌, ◌<◌, Bool, true, false, List, [], ◌∷◌, ◌++◌, ◌≢◌}
use Prim.Native.String.{String}
use mathlib.Core.List.{Memᴰ}
use Rattle.registers.specs.Registers.{Register, registers}
use Rattle.texts.specs.Rules.{◌means◌, system_register}
use Rattle.texts.specs.Pool.{rule_at, first_of}
use Rattle.records.specs.Kinds.{Kind, Free, Unchecked, Checked, Coded, mark_of}
use Rattle.records.specs.declared.Record.{Record}
use Rattle.records.specs.Rows.{row_kind}
use Rattle.records.specs.declared.Row.{Row}
use Rattle.tables.specs.Shape.{Test, Condition, Line}
use Rattle.tables.specs.Tables.{top_rows, Served, layouts}

-- the bits start .. start + width of a value are x: with what stands above them and what stands below, they make the value
pub record HasBits (v start width x : ℕ) : Type 0 where
  pub above : ℕ
  pub below : ℕ
  pub fits : x < 2 ^ width
  pub small : below < 2 ^ start
  pub whole : v ≡ (above * 2 ^ width + x) * 2 ^ start + below

-- Which rows apply.

-- a test holds of a value if its field of the value is among its numbers; ISS is the value's lowest bits, so its bits are counted alike
pub record Holding (v : ℕ) (t : Test) : Type 0 where
  pub value : ℕ
  pub has : HasBits v t.start t.width value
  pub among : Memᴰ value t.among

-- a test that must hold does, and one that must not does not
abbrev pub Fulfils : ℕ → Test → Bool → Type 0
Fulfils v t true = Holding v t
Fulfils v t false = Holding v t → ⊥

abbrev pub Meets : ℕ → List Condition → Type 0
Meets v [] = Unit {0}
Meets v (c ∷ cs) = Fulfils v c.test c.holds × Meets v cs

-- the rows of the lines whose conditions the value meets, in order, with none left out
pub data Applying (v : ℕ) : List Line → List Row → Type 0 where
  none : Applying v [] []
  there : {l : Line} {ls : List Line} {rs : List Row} → Meets v l.conditions → Applying v ls rs → Applying v (l ∷ ls) (l.row ∷ rs)
  away : {l : Line} {ls : List Line} {rs : List Row} → (Meets v l.conditions → ⊥) → Applying v ls rs → Applying v (l ∷ ls) rs

-- What a record holds.

-- a value is on the list of a text rule, which has a text for it
pub record Listed (rule value : ℕ) : Type 0 where
  pub text : String
  pub among : Memᴰ (value means text) (rule_at rule).texts

-- #108: the system register that an ISS names, by "a 16-bit key, Op0 on top, then Op1, CRn, CRm, Op2"
pub record HasKey (iss key : ℕ) : Type 0 where
  pub op0 : ℕ
  pub op1 : ℕ
  pub crn : ℕ
  pub crm : ℕ
  pub op2 : ℕ
  pub has_op0 : HasBits iss 20 2 op0
  pub has_op2 : HasBits iss 17 3 op2
  pub has_op1 : HasBits iss 14 3 op1
  pub has_crn : HasBits iss 10 4 crn
  pub has_crm : HasBits iss 1 4 crm
  pub whole : key ≡ op0 * 2 ^ 14 + op1 * 2 ^ 11 + crn * 2 ^ 7 + crm * 2 ^ 3 + op2

-- a key is that of the register at this place of a table
pub data Stands (key : ℕ) : ℕ → List Register → Type 0 where
  first : {r : Register} {rs : List Register} → r.key ≡ key → Stands key 0 (r ∷ rs)
  next : {n : ℕ} {r : Register} {rs : List Register} → Stands key n rs → Stands key (suc n) (r ∷ rs)

-- the number by which a rule speaks of a field: the field's value; under the rule of system registers, the place of its key, if the key is in the table
pub data SpeaksBy (rule value n : ℕ) : Type 0 where
  itself : (rule ≢ system_register.number) → n ≡ value → SpeaksBy rule value n
  register : {key : ℕ} → rule ≡ system_register.number → HasKey value key → Stands key n registers → SpeaksBy rule value n

-- what a kind asks of its field's value: a coded field is on its list, "a checked reserved field" is 0; of others nothing
abbrev pub Allowed : Kind → ℕ → ℕ → Type 0
Allowed Free rule value = Unit {0}
Allowed (Coded reason) rule value = Listed rule value
Allowed Checked rule value = value ≡ 0
Allowed Unchecked rule value = Unit {0}

-- a record holds its row of a value: start, width, names and mark of the row, the value's own bits, the code of what the rule says of them
pub record Holds (v : ℕ) (row : Row) (x : Record) : Type 0 where
  pub start : x.start ≡ row.start
  pub width : x.width ≡ row.width
  pub name : x.name ≡ row.name
  pub long : x.long ≡ row.long
  pub mark : x.mark ≡ mark_of (row_kind row)
  pub has : HasBits v row.start row.width x.value
  pub described : (n : ℕ) → SpeaksBy row.rule x.value n → Listed row.rule n → x.text ≡ first_of row.rule + n
  pub undescribed : ((n : ℕ) → SpeaksBy row.rule x.value n → Listed row.rule n → ⊥) → x.text ≡ 0
  pub allowed : Allowed (row_kind row) row.rule x.value

-- a record for each row, in order
pub data HoldAll (v : ℕ) : List Row → List Record → Type 0 where
  none : HoldAll v [] []
  more : {row : Row} {x : Record} {rows : List Row} {xs : List Record} → Holds v row x → HoldAll v rows xs → HoldAll v (row ∷ rows) (x ∷ xs)

-- a layout of 01 serves the class of a value, bits 26..32
pub record Classed (v : ℕ) (s : Served) : Type 0 where
  pub class : ℕ
  pub has : HasBits v 26 6 class
  pub serves : Memᴰ class s.classes
  pub layout : Memᴰ s layouts

-- A reading: a layout serves the class; there are records for the top rows and all rows of the layout that apply, and for no other; each
-- holds its row. EC is one of the top rows, coded by the class names, so that a class that is read has a name too.
pub record Reading (v : ℕ) (l : List Record) : Type 0 where
  pub served : Served
  pub classed : Classed v served
  pub rows : List Row
  pub applying : Applying v served.table.lines rows
  pub held : HoldAll v (top_rows served.table.iss_rule ++ rows) l
