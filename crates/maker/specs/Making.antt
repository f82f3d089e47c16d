-- What is made of a class, an IL, an ISS2 and a list of leaf values, by 01's tables (#106). The order of the refusals: the class, the layout, the
-- widths, and "then whatever decoding the made value would refuse".
use Rattle.std.specs.Prelude.{◌≡◌, ℕ, ◌+◌, ◌*◌, ◌^◌, Bool, true, cond, ◌&&◌, List, [], ◌∷◌, ◌≢◌, nat_lt, Result, Ok, Err}
use Rattle.refusals.specs.Refusals.{carrying, bare, passed}
use Rattle.refusals.specs.declared.Reason.TheVariants.{InvalidEc, NoLayout, WideLeaf}
use Rattle.refusals.specs.declared.Refusal.{Refusal}
use Rattle.records.specs.declared.Row.{Row}
use Rattle.tables.specs.Shape.{Table}
use Rattle.layouts.specs.Layouts.{table_of, layout_number, empty}
use Rattle.layout_sets.specs.Fitting.{leaf_rows, Fits}
use Rattle.esr.specs.Decode.{answer_of}

-- "The layout is chosen by the class and by those leaf values that 01's conditions name": a set of rows of the class's table; or the class has no
-- table, or no set of rows of it fits the list
pub data Choice : Type 0 where
  no_class : Choice
  no_layout : Choice
  chosen : List Row → Choice

abbrev pub table_for : ℕ → Table
table_for class = table_of (layout_number class)

pub data Chooses (class : ℕ) (leaves : List ℕ) : Choice → Type 0 where
  unserved : layout_number class ≡ empty → Chooses class leaves no_class
  unfit : (layout_number class ≢ empty) → ((rows : List Row) → Fits (table_for class) leaves rows → ⊥) → Chooses class leaves no_layout
  fit : (layout_number class ≢ empty) → (rows : List Row) → Fits (table_for class) leaves rows → Chooses class leaves (chosen rows)

-- each leaf fits the width of its row
unfoldable pub in_widths : List Row → List ℕ → Bool
in_widths [] xs = true
in_widths (r ∷ rs) [] = true
in_widths (r ∷ rs) (x ∷ xs) = nat_lt x (2 ^ r.width) && in_widths rs xs

-- the leaves shifted to their rows' places, and added up
unfoldable pub packed : List Row → List ℕ → ℕ
packed [] xs = 0
packed (r ∷ rs) [] = 0
packed (r ∷ rs) (x ∷ xs) = x * 2 ^ r.start + packed rs xs

-- ISS2 32..37, EC 26..32, IL 25, and ISS's leaves
unfoldable pub value_of : ℕ → ℕ → ℕ → List Row → List ℕ → ℕ
value_of class il iss2 rows leaves = iss2 * 2 ^ 32 + (class * 2 ^ 26 + (il * 2 ^ 25 + packed rows leaves))

-- a refusal has no value
abbrev pub nothing : Refusal → Result ℕ Refusal
nothing f = Err f

-- the value, if it decodes; or what decoding it refuses
unfoldable pub judged : ℕ → Result ℕ Refusal
judged v = cond (passed (answer_of v).refusal) (Ok v) (Err (answer_of v).refusal)

-- "22 if a leaf or ISS2 doesn't fit its width, or IL isn't 0 or 1"
unfoldable pub made_at : ℕ → ℕ → ℕ → List Row → List ℕ → Result ℕ Refusal
made_at class il iss2 rows leaves =
    cond (in_widths rows leaves && (nat_lt iss2 (2 ^ 5) && nat_lt il 2)) (judged (value_of class il iss2 rows leaves)) (nothing (bare WideLeaf))

-- "2 for the class; 21 if no layout of the class has that many leaves and fits its conditions"
abbrev pub made_of : ℕ → ℕ → ℕ → List ℕ → Choice → Result ℕ Refusal
made_of class il iss2 leaves no_class = nothing (carrying InvalidEc class)
made_of class il iss2 leaves no_layout = nothing (bare NoLayout)
made_of class il iss2 leaves (chosen rows) = made_at class il iss2 (leaf_rows (table_for class) rows) leaves
