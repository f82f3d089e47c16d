-- Fields turned, by example. For each named field two accepted values that differ only inside it and have other rows: "Named are the class, bit 24 in data
-- aborts, software step and SError, the status, FnV (for the text of FnP) and WnRV." For some that are not named, two values whose other records stand.
use Rattle.std.specs.Prelude.{ℕ, ◌≡◌}
use mathlib.Core.List.{List, [], ◌∷◌, map, Memᴰ}
use Rattle.records.specs.declared.Record.{Record}
use Rattle.records.specs.declared.Row.{Row}
use Rattle.reading.specs.Given.{ClassIn}
use Rattle.reading.specs.Reading.{Reading}
use Rattle.turning.specs.Turning.{Field, bits_of, DifferInside, leaf_rows, named_in, Unnamed, OneTurned}

pub record Example : Type 0 where
  pub field : Field
  pub first : ℕ
  pub second : ℕ

-- a field of two values
abbrev pub turned : ℕ → ℕ → ℕ → ℕ → Example
turned start width v w = record { field = record { start = start; width = width }; first = v; second = w }

unfoldable pub examples : List Example
examples =
    -- the class: 0x00, and 0x0D
    turned 26 6 0x00000000 0x34000000 ∷
    -- bit 24, in a data abort, in software step, in an SError
    turned 24 1 0x90000004 0x91000004 ∷
    turned 24 1 0xC8000022 0xC9000022 ∷
    turned 24 1 0xBC000000 0xBD000000 ∷
    -- the status, in a data abort, in an instruction abort, in an SError
    turned 0 6 0x90000004 0x90000010 ∷
    turned 0 6 0x80000004 0x80000010 ∷
    turned 0 6 0xBC000000 0xBC000011 ∷
    -- FnV, in a data abort whose status is 0x10: FnP has another text rule
    turned 10 1 0x90000010 0x90000410 ∷
    -- WnRV, in an SError whose status is 0x11
    turned 7 1 0xBC000011 0xBC000091 ∷
    []

-- the field is a leaf of the first value and is named; both values are read, and their rows are not the same
pub record Shown (e : Example) : Type 0 where
  pub inside : DifferInside e.field e.first e.second
  pub before : List Record
  pub after : List Record
  pub first : Reading e.first before
  pub second : Reading e.second after
  pub leaf : Memᴰ e.field (map bits_of (leaf_rows first.served.table.iss_rule first.rows))
  pub named : Memᴰ e.field (named_in first.served.table)
  pub other_rows : first.rows ≡ second.rows → ⊥

-- an example of a field, in one of these classes
pub record Covered (f : Field) (classes : List ℕ) (es : List Example) : Type 0 where
  pub example : Example
  pub among : Memᴰ example es
  pub field : example.field ≡ f
  pub class : ClassIn example.first classes

-- fields that are not named
unfoldable pub others : List Example
others =
    -- ISS2 and IL, above ISS
    turned 32 5 0x000000000 0x100000000 ∷
    turned 25 1 0x00000000 0x02000000 ∷
    -- Op2 of an MRS, of SCTLR_EL1 and then of CPACR_EL1: the text of ISS is another name (#108)
    turned 17 3 0x60300401 0x60340401 ∷
    -- FnP, whose text asks FnV
    turned 15 1 0x90000010 0x90008010 ∷
    -- IMPDEF of an SError, which has the bits of the status and of WnRV: where bit 24 is 1 no condition asks them
    turned 0 24 0xBD000000 0xBD000091 ∷
    []

-- the field is that of a leaf which is not named, and the records of both readings stand
pub record Standing (e : Example) : Type 0 where
  pub row : Row
  pub field : bits_of row ≡ e.field
  pub unnamed : Unnamed e.first row
  pub inside : DifferInside (bits_of row) e.first e.second
  pub before : List Record
  pub after : List Record
  pub first : Reading e.first before
  pub second : Reading e.second after
  pub stand : OneTurned row e.first e.second before after
