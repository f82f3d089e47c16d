-- The fields that decide which rows a value has, and the rows that the tables give it (#114).
use Rattle.std.specs.Prelude.{ℕ, Bool, List, ◌++◌}
use Rattle.esr.specs.Decode.{class_of, iss_of}
use Rattle.layouts.specs.Layouts.{layout_number, table_of}
use Rattle.leaf_values.specs.Leaves.{leaves_of, same_rows}
use Rattle.records.specs.declared.Row.{Row}
use Rattle.tables.specs.Tables.{top_rows}
use Rattle.turning.specs.Turning.{Field, same, on_list, named_in}

-- a field by its bits, and whether it has these
abbrev pub field_at : ℕ → ℕ → Field
field_at start width = record { start = start; width = width }

unfoldable pub is_field : ℕ → ℕ → ℕ → ℕ → Bool
is_field start width at wide = same (field_at start width) (field_at at wide)

-- a condition of the class names the field, or it is the class
unfoldable pub is_named : ℕ → ℕ → ℕ → Bool
is_named class start width = on_list (field_at start width) (named_in (table_of (layout_number class)))

-- The top rows, with the rule of ISS's own text, and the rows of ISS: they are the same where bits, names, text rules and kinds are.
unfoldable pub rows_of : ℕ → List Row
rows_of v = top_rows (table_of (layout_number (class_of v))).iss_rule ++ leaves_of (layout_number (class_of v)) (iss_of v)

unfoldable pub have_same_rows : ℕ → ℕ → Bool
have_same_rows v w = same_rows (rows_of v) (rows_of w)
