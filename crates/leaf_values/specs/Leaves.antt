-- The leaves that a layout gives to an ISS, and when two ISS have the same ones.
use Rattle.std.specs.Prelude.{ℕ, Bool, true, false, ◌&&◌, List, [], ◌∷◌, eqb}
use Rattle.layout_sets.specs.Fitting.{leaf_rows}
use Rattle.layouts.specs.Layouts.{table_of}
use Rattle.records.specs.declared.Row.{Row}
use Rattle.tables.specs.Applying.{rows_for}

-- by the number of the layout
unfoldable pub leaves_of : ℕ → ℕ → List Row
leaves_of number iss = leaf_rows (table_of number) (rows_for (table_of number) iss)

unfoldable pub same_row : Row → Row → Bool
same_row a b =
    eqb a.start b.start
    && eqb a.width b.width
    && eqb a.name b.name
    && eqb a.long b.long
    && eqb a.rule b.rule
    && eqb a.kind b.kind

unfoldable pub same_rows : List Row → List Row → Bool
same_rows [] [] = true
same_rows [] (b ∷ bs) = false
same_rows (a ∷ rs) [] = false
same_rows (a ∷ rs) (b ∷ bs) = same_row a b && same_rows rs bs

unfoldable pub same_leaves : ℕ → ℕ → ℕ → Bool
same_leaves number iss other = same_rows (leaves_of number iss) (leaves_of number other)
