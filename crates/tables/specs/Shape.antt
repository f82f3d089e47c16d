-- How a layout's table is written: rows, the conditions under which each is there, and the order of the checks.
use Rattle.std.specs.Prelude.{ℕ, zero, suc, ◌-◌, Bool, true, false, not, List, [], ◌∷◌, ◌++◌}
use Prim.Native.String.{String}
use Rattle.texts.specs.Pool.{code}
use Rattle.texts.specs.Rules.{Rule, plain}
use Rattle.records.specs.Kinds.{Kind, kind_number}
use Rattle.records.specs.declared.Row.{Row}

-- a test of a value: a field of it is one of these numbers
pub record Test : Type 0 where
  pub start : ℕ
  pub width : ℕ
  pub among : List ℕ

-- a test that must hold, or one that must not
pub record Condition : Type 0 where
  pub test : Test
  pub holds : Bool

-- a row, and the conditions that are all met where it is there
pub record Line : Type 0 where
  pub conditions : List Condition
  pub row : Row

-- the lines from high bits to low; the starts of the rows that ask something, in the order of the checks; the rule of ISS's own text
pub record Table : Type 0 where
  pub lines : List Line
  pub order : List ℕ
  pub iss_rule : ℕ

-- a row by its columns: bits a .. b, name, long name, kind, text rule
abbrev pub bits : ℕ → ℕ → String → String → Kind → Rule → Line
bits a b name long kind rule =
    record {
      conditions = [];
      row = record { start = a; width = b - a; name = code name; long = code long; rule = rule.number; kind = kind_number kind };
    }

-- no long name
abbrev pub unnamed : String
unnamed = ""

-- under conditions
infixl 70 ◌when◌
abbrev pub ◌when◌ : Line → Condition → Line
l when c = record { conditions = l.conditions ++ (c ∷ []); row = l.row }

infixl 70 ◌unless◌
abbrev pub ◌unless◌ : Line → Condition → Line
l unless c = l when record { test = c.test; holds = not c.holds }

infix 20 ◌checking◌
abbrev pub ◌checking◌ : List Line → List ℕ → Table
ls checking o = record { lines = ls; order = o; iss_rule = plain.number }

-- a table under which ISS itself has a text
infix 10 ◌iss_by◌
abbrev pub ◌iss_by◌ : Table → Rule → Table
t iss_by r = record { lines = t.lines; order = t.order; iss_rule = r.number }

-- the conditions of 01: a bit is 1 or 0; the status, bits 0 .. 6, is this, or is external
abbrev pub bit : ℕ → Test
bit k = record { start = k; width = 1; among = 1 ∷ [] }

infix 80 ◌is◌
abbrev pub ◌is◌ : Test → ℕ → Condition
t is zero = record { test = t; holds = false }
t is (suc n) = record { test = t; holds = true }

abbrev pub is_status : ℕ → Test
is_status s = record { start = 0; width = 6; among = s ∷ [] }

abbrev pub status : ℕ → Condition
status s = record { test = is_status s; holds = true }

-- 01: "External: 0x10, 0x13-17"; #102: "and 0x12 to the external set"
abbrev pub externals : List ℕ
externals = 0x10 ∷ 0x12 ∷ 0x13 ∷ 0x14 ∷ 0x15 ∷ 0x16 ∷ 0x17 ∷ []

abbrev pub is_external : Test
is_external = record { start = 0; width = 6; among = externals }

abbrev pub external : Condition
external = record { test = is_external; holds = true }

-- the tests that the conditions of 01 name
abbrev pub tests : List Test
tests = bit 24 ∷ bit 10 ∷ bit 7 ∷ is_status 0x10 ∷ is_status 0x11 ∷ is_external ∷ []
