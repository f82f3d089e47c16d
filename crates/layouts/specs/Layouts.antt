-- A table's rows in the arrays of a layout, as the code hands them on: the rows that apply, the indices of those to check, and padding.
use Rattle.std.specs.Prelude.{ℕ, suc, ◌-◌, cond, List, [], ◌∷◌, ◌++◌, length, get_or, replicate}
use Rattle.promise.specs.Member.{member}
use Rattle.texts.specs.Rules.{plain}
use Rattle.records.specs.Kinds.{Free, kind_number}
use Rattle.records.specs.declared.Row.{Row}
use Rattle.tables.specs.Shape.{Table}
use Rattle.tables.specs.Applying.{is_check_at, rows_for}
use Rattle.tables.specs.Tables.{Served, layouts, msr}
use Rattle.layouts.specs.declared.Layout.{Layout}

-- the index of the row that starts at s and asks something, counted from n; none where there is no such row
abbrev pub index_of : ℕ → List Row → ℕ → List ℕ
index_of n [] s = []
index_of n (r ∷ rs) s = cond (is_check_at s r) (n ∷ []) (index_of (suc n) rs s)

-- the indices of the rows to check, in the order of these starts
abbrev pub indices_of : List Row → List ℕ → List ℕ
indices_of rows [] = []
indices_of rows (s ∷ ss) = index_of 0 rows s ++ indices_of rows ss

-- past the rows stands a row of no name, and past the checks 0
abbrev pub layout_room : ℕ
layout_room = 14

abbrev pub pad : Row
pad = record { start = 0; width = 0; name = 0; long = 0; rule = plain.number; kind = kind_number Free }

abbrev pub laid : List Row → List ℕ → ℕ → Layout
laid rows checks rule =
    record {
      rows = rows ++ replicate (layout_room - length rows) pad;
      checks = checks ++ replicate (layout_room - length checks) 0;
      count = length rows;
      checked = length checks;
      rule = rule;
    }

unfoldable pub layout_for : Table → ℕ → Layout
layout_for t v = laid (rows_for t v) (indices_of (rows_for t v) t.order) t.iss_rule

-- The layouts by number, as the code names them: a layout's number is its index in the list of tables.

-- the table of a number; past the last, the last one again
abbrev pub tables_of : List Served → List Table
tables_of [] = []
tables_of (s ∷ ss) = s.table ∷ tables_of ss

unfoldable pub table_of : ℕ → Table
table_of n = get_or (tables_of layouts) n msr

-- the number of the layout that serves a class, counted from n, and a mark where none does
abbrev pub empty : ℕ
empty = 255

abbrev pub number_in : ℕ → List Served → ℕ → ℕ
number_in n [] c = empty
number_in n (s ∷ ss) c = cond (member c s.classes) n (number_in (suc n) ss c)

unfoldable pub layout_number : ℕ → ℕ
layout_number c = number_in 0 layouts c
