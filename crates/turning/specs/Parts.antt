-- A listing by its parts: what it says of each record, in order, and which of these parts a turned field leaves as they are.
use Rattle.std.specs.Prelude.{ℕ, suc, List, [], ◌∷◌, ◌++◌, ◌⊎◌, ◌≡◌}
use Rattle.records.specs.declared.Record.{Record}
use Rattle.records.specs.declared.Row.{Row}
use Rattle.tables.specs.Tables.{iss_under}
use Rattle.display.specs.Listings.{record_lines, listing}
use Rattle.turning.specs.Turning.{InIss}

-- one part for each record, the first with this index
abbrev pub parts_from : (ℕ → List ℕ) → ℕ → List Record → List (List ℕ)
parts_from lookup index [] = []
parts_from lookup index (x ∷ xs) = record_lines lookup index x ∷ parts_from lookup (suc index) xs

abbrev pub joined : List (List ℕ) → List ℕ
joined [] = []
joined (p ∷ ps) = p ++ joined ps

-- the row of the turned field, and that of ISS if the field lies in it
abbrev pub Excepted : Row → Row → Type 0
Excepted turned row = (row ≡ turned) ⊎ ((rule : ℕ) × (row ≡ iss_under rule) × InIss turned)

-- the parts of all other rows are equal
pub data PartsStand (turned : Row) : List Row → List (List ℕ) → List (List ℕ) → Type 0 where
  none : PartsStand turned [] [] []
  equal : {row : Row} {p q : List ℕ} {rows : List Row} {ps qs : List (List ℕ)} → p ≡ q → PartsStand turned rows ps qs
      → PartsStand turned (row ∷ rows) (p ∷ ps) (q ∷ qs)
  except : {row : Row} {p q : List ℕ} {rows : List Row} {ps qs : List (List ℕ)} → Excepted turned row → PartsStand turned rows ps qs
      → PartsStand turned (row ∷ rows) (p ∷ ps) (q ∷ qs)

-- each listing is its parts, one after the other
pub record ListingsStand (turned : Row) (rows : List Row) (lookup : ℕ → List ℕ) (l k : List Record) : Type 0 where
  pub first : listing lookup l ≡ joined (parts_from lookup 0 l)
  pub second : listing lookup k ≡ joined (parts_from lookup 0 k)
  pub parts : PartsStand turned rows (parts_from lookup 0 l) (parts_from lookup 0 k)
