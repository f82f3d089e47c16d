-- The rules that rows name: those of the top rows and of the lines of each layout's table.
use Rattle.std.specs.Prelude.{ℕ, List, [], ◌∷◌, ◌++◌, map}
use Rattle.records.specs.declared.Row.{Row}
use Rattle.tables.specs.Shape.{Line}
use Rattle.tables.specs.Tables.{Served, top_rows, layouts}

abbrev pub rule_of : Row → ℕ
rule_of r = r.rule

abbrev pub line_rule : Line → ℕ
line_rule l = l.row.rule

unfoldable pub rules_in : List Served → List ℕ
rules_in [] = []
rules_in (s ∷ ss) = map rule_of (top_rows s.table.iss_rule) ++ (map line_rule s.table.lines ++ rules_in ss)

abbrev pub rules_named : List ℕ
rules_named = rules_in layouts
