-- #114 of listings: a listing is one part for each record, in order, and equal records at one index have equal parts. By induction over the records.
use mathlib.Core.Path.{◌≡◌, refl, ap}
use mathlib.Core.List.{List, [], ◌∷◌, ◌++◌}
use mathlib.Core.Logic.{inl, inr}
use Prim.Native.Nat.{ℕ, suc}
use Rattle.buffer.specs.InOrder.{each_from}
use Rattle.records.specs.declared.Record.{Record}
use Rattle.records.specs.declared.Row.{Row}
use Rattle.tables.specs.Tables.{top_rows}
use Rattle.display.specs.Listings.{record_lines}
use Rattle.turning.specs.Turning.{Stands, equal, field, iss, StandAll, none, more, OneTurned}
use Rattle.turning.specs.Parts.{parts_from, joined, PartsStand, ListingsStand}
use Rattle.turning.specs.Parts as parts

module _ (lookup : ℕ → List ℕ) where
  from_parts : (index : ℕ) (l : List Record) → each_from (record_lines lookup) index l ≡ joined (parts_from lookup index l)
  unfolding each_from
  from_parts index [] = refl
  from_parts index (x ∷ xs) = ap (λ (t : List ℕ). record_lines lookup index x ++ t) (from_parts (suc index) xs)

  part-stands : {turned row : Row} {x y : Record} {rows : List Row} {ps qs : List (List ℕ)} (index : ℕ) → Stands turned row x y → PartsStand turned rows ps qs
      → PartsStand turned (row ∷ rows) (record_lines lookup index x ∷ ps) (record_lines lookup index y ∷ qs)
  part-stands index (equal e) rest = parts.equal (ap (record_lines lookup index) e) rest
  part-stands index (field e s) rest = parts.except (inl e) rest
  part-stands index (iss {rule} e i s t) rest = parts.except (inr (rule, e, i)) rest

  parts-stand : {turned : Row} {rows : List Row} {l k : List Record} (index : ℕ) → StandAll turned rows l k
      → PartsStand turned rows (parts_from lookup index l) (parts_from lookup index k)
  parts-stand index none = parts.none
  parts-stand index (more s rest) = part-stands index s (parts-stand (suc index) rest)

  -- The listings of both readings, or of both answers, under any lookup of texts.
  pub listings_stand : {turned : Row} {v w : ℕ} {l k : List Record} (o : OneTurned turned v w l k)
      → ListingsStand turned (top_rows o.served.table.iss_rule ++ o.rows) lookup l k
  listings_stand {l} {k} o = record { first = from_parts 0 l; second = from_parts 0 k; parts = parts-stand 0 o.stand }
