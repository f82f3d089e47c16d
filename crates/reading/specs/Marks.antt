-- What #109 says of a mark, of the bits of values: "a coded field is one that one of refusals 2 to 7 can come from in the ordinary decoder".
use Rattle.std.specs.Prelude.{ℕ, List, [], ◌∷◌, ◌++◌}
use mathlib.Core.List.{Memᴰ}
use Rattle.refusals.specs.Refusals.{refusal_number}
use Rattle.refusals.specs.declared.Refusal.{Refusal}
use Rattle.records.specs.declared.Row.{Row}
use Rattle.tables.specs.Tables.{top_rows, Served}
use Rattle.reading.specs.Reading.{Applying, Classed}
use Rattle.reading.specs.Refusing.{Met, Unmet, Checks}

-- a row by which a value is read: one of the top, or one of its class's layout that applies to it
pub record ReadBy (v : ℕ) (row : Row) : Type 0 where
  pub served : Served
  pub classed : Classed v served
  pub rows : List Row
  pub applying : Applying v served.table.lines rows
  pub among : Memᴰ row (top_rows served.table.iss_rule ++ rows)

-- a refusal of a value comes from a row: the row is checked and not met, and those that are checked before it are met
pub record ComesFrom (v : ℕ) (f : Refusal) (row : Row) : Type 0 where
  pub before : List Row
  pub after : List Row
  pub order : Checks v (before ++ (row ∷ after))
  pub met : (r : Row) → Memᴰ r before → Met v r
  pub unmet : Unmet v row f

-- one of these refusals can come from a row
pub record CanRefuse (row : Row) (numbers : List ℕ) : Type 0 where
  pub value : ℕ
  pub refusal : Refusal
  pub from : ComesFrom value refusal row
  pub number : Memᴰ (refusal_number refusal) numbers

-- "refusals 2 to 7"
abbrev pub of_coded : List ℕ
of_coded = 2 ∷ 3 ∷ 4 ∷ 5 ∷ 6 ∷ 7 ∷ []
