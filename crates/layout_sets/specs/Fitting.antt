-- When a set of rows fits a list of leaf values, from high to low (#106): by count, and by "those leaf values that 01's conditions name".
use Rattle.std.specs.Prelude.{ℕ, Bool, cond, ◌&&◌, List, [], ◌∷◌, ◌≡◌, eqb, length}
use Rattle.promise.specs.Member.{member}
use Rattle.records.specs.declared.Row.{Row}
use Rattle.tables.specs.Shape.{Test, Table}
use Rattle.tables.specs.Applying.{keep}
use Rattle.tables.specs.Tables.{iss_under}

-- 01: leaves are "ISS's fields, or ISS itself where it has none"; 02: "For an ISS that is undivided the list has one number"
abbrev pub leaf_rows : Table → List Row → List Row
leaf_rows t [] = iss_under t.iss_rule ∷ []
leaf_rows t (r ∷ rs) = r ∷ rs

-- the list's own value at the row of these bits; 0 where the set has no such row, and then no row of the set depends on a test of them
abbrev pub is_row : ℕ → ℕ → Row → Bool
is_row start width r = eqb r.start start && eqb r.width width

abbrev pub leaf_at : List Row → List ℕ → ℕ → ℕ → ℕ
leaf_at [] xs start width = 0
leaf_at (r ∷ rs) [] start width = 0
leaf_at (r ∷ rs) (x ∷ xs) start width = cond (is_row start width r) x (leaf_at rs xs start width)

-- how the list answers the tests, at these rows; a number that is too wide for its row is asked as it is
unfoldable pub answers : List Row → List ℕ → Test → Bool
answers rows leaves t = member (leaf_at rows leaves t.start t.width) t.among

-- a set of rows fits a list: "has that many leaves and fits its conditions". The rows are those whose conditions the list's own values at these
-- rows meet
pub record Fits (t : Table) (leaves : List ℕ) (rows : List Row) : Type 0 where
  pub many : length (leaf_rows t rows) ≡ length leaves
  pub conditions : rows ≡ keep (answers (leaf_rows t rows) leaves) t.lines
