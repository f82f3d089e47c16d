-- The fields of a value that can be set, and which of them a word means (#114).
use Rattle.std.specs.Prelude.{ℕ, suc, ◌+◌, Bool, true, false, cond, List, [], ◌∷◌, ◌++◌, eqb, drop, take}
use Rattle.esr.specs.Decode.{class_of, iss_of}
use Rattle.layouts.specs.Layouts.{layout_number, table_of}
use Rattle.leaf_values.specs.Leaves.{leaves_of}
use Rattle.number.specs.Rest.{whole_of}
use Rattle.number.specs.declared.Number.{Number}
use Rattle.records.specs.declared.Row.{Row}
use Rattle.refusals.specs.Refusals.{passed}
use Rattle.tables.specs.Tables.{top_rows}
use Rattle.texts.specs.Pool.{bytes_at}
use Rattle.turn_fields.specs.declared.Found.{Found}
use Rattle.turn_fields.specs.declared.Found.TheVariants.{Nowhere, Once, Several}
use Rattle.turn_fields.specs.declared.Meant.{Meant}
use Rattle.turn_fields.specs.declared.Meant.TheVariants.{Name, Bit}
use Rattle.words.specs.Words.{same}

-- ISS2, EC, IL and ISS's own: the leaves, but for the reserved bits 37..64, which the maker has no number for (DECISIONS 110)
unfoldable pub fields_of : ℕ → List Row
fields_of v = drop 1 (take 4 (top_rows (table_of (layout_number (class_of v))).iss_rule)) ++ leaves_of (layout_number (class_of v)) (iss_of v)

-- whether a row is meant: by its name, letter for letter, or by its lowest bit
unfoldable pub means_by : Bool → List ℕ → ℕ → Row → Bool
means_by by_name word bit r = cond by_name (same (bytes_at r.name) word) (eqb r.start bit)

-- the same by what it is meant by
abbrev pub meant : Meant → Row → Bool
meant (Name word) = means_by true word.now 0
meant (Bit bit) = means_by false [] bit

-- how many fields are meant
abbrev pub count_of : Found → ℕ
count_of Nowhere = 0
count_of (Once i) = 1
count_of (Several p) = p.count

abbrev pub one_more : Bool → ℕ → Found → Found
one_more false i found = found
one_more true i Nowhere = Once i
one_more true i (Once j) = Several (record { count = 2; index = i })
one_more true i (Several p) = Several (record { count = p.count + 1; index = i })

-- how many rows pass a test, and the index of the last of them
unfoldable pub seek_from : (Row → Bool) → ℕ → Found → List Row → Found
seek_from p i found [] = found
seek_from p i found (r ∷ rs) = seek_from p (suc i) (one_more (p r) i found) rs

abbrev pub nowhere : Found
nowhere = Nowhere

unfoldable pub seek_in : (Row → Bool) → List Row → Found
seek_in p rows = seek_from p 0 nowhere rows

-- by the number of its lowest bit, decimal or hexadecimal (DECISIONS 110)
unfoldable pub bit_place : ℕ → List ℕ → Number → Found
bit_place v word n = cond (passed n.refusal) (seek_in (means_by false word n.value) (fields_of v)) nowhere

-- by its name, or where none is named so by its number
abbrev pub or_bit : ℕ → List ℕ → Found → Found
or_bit v word Nowhere = bit_place v word (whole_of word)
or_bit v word (Once i) = Once i
or_bit v word (Several p) = Several p

unfoldable pub place_of : ℕ → List ℕ → Found
place_of v word = or_bit v word (seek_in (means_by true word 0) (fields_of v))
