-- The rows of leaves in the code's array, and what the code finds of them.
use Rattle.std.specs.Prelude.{◌≡◌, ℕ, ◌^◌, ◌<◌, ◌≤◌, Bool, true, ◌&&◌, List, length, take, ◌==◌, slice_index_or, Option, Some, None}
use Rattle.records.specs.declared.Row.{Row}
use Rattle.tables.specs.Applying.{rows_for}
use Rattle.layouts.specs.Layouts.{table_of, layout_room, pad}
use Rattle.layout_sets.specs.Fitting.{leaf_rows, answers, Fits}
use Rattle.layout_sets.specs.Outcomes.{sets, outcome_of, index_of}
use Rattle.maker.specs.Making.{in_widths, packed}
use Rattle.maker.specs.declared.LeafRows.{LeafRows}

-- the rows of the leaves of a layout at an outcome
abbrev pub rows_at : ℕ → ℕ → List Row
rows_at number index = leaf_rows (table_of number) (rows_for (table_of number) (outcome_of index))

-- an array holds them
pub record Laid (number index : ℕ) (r : LeafRows) : Type 0 where
  pub few : r.count ≤ layout_room
  pub long : length r.rows ≡ layout_room
  pub rows : take r.count r.rows ≡ rows_at number index

-- each row starts within 64 bits
abbrev pub Low : List Row → Type 0
Low rows = (i : ℕ) → i < length rows → (slice_index_or rows i pad).start < 64

-- leaves that fit their widths fit ISS
abbrev pub Bounded : List Row → List ℕ → Type 0
Bounded rows leaves = in_widths rows leaves ≡ true → packed rows leaves < 2 ^ 25

-- the rows at an outcome are as many as the leaves, which tell it at them
unfoldable pub tells_at : ℕ → ℕ → List ℕ → Bool
tells_at number index leaves = length (rows_at number index) == length leaves && index_of (answers (rows_at number index) leaves) == index

-- the outcome whose rows fit the leaves, which tell it; or no rows of the layout fit
pub data FitsAt (number : ℕ) (leaves : List ℕ) : Option ℕ → Type 0 where
  one : (r : ℕ) → r < sets → Fits (table_of number) leaves (rows_for (table_of number) (outcome_of r))
      → r ≡ index_of (answers (rows_at number r) leaves) → FitsAt number leaves (Some r)
  none : ((rows : List Row) → Fits (table_of number) leaves rows → ⊥) → FitsAt number leaves None
