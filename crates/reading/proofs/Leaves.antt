-- The leaves of an accepted value tile its 64 bits and add up to it: one induction over rows that leave no gap.
use Rattle.std.proofs.Common.{◌≡◌, ℕ, suc, ◌+◌, ◌*◌, ◌/◌, ◌%◌, ◌^◌, ◌<◌, ◌≤◌, ◌&&◌, T, eqb, leb, List, [], ◌∷◌, ◌++◌, map, length, take, sym, refl, ap, ◌∙◌, subst, mod-eq_of_lt, arith, eqb→eq, leb→le, lt-ltb, le-leb}
use native.Mathlib.Nat.{mod-one}
use lib.Pow.{mod-pow-add}
use Rattle.promise.proofs.Tests.{both_left, both_right}
use Rattle.records.specs.Bits.{field_of}
use Rattle.records.specs.Rows.{record_of}
use Rattle.refusals.specs.Refusals.{no_refusal}
use Rattle.records.specs.declared.Row.{Row}
use Rattle.records.proofs.Laws.{list-of}
use Rattle.tables.specs.Tables.{top_rows}
use Rattle.tables.proofs.Sound.{tiles, tiled}
use Rattle.esr.specs.Promises.{Decoded}
use Rattle.esr.specs.declared.Answer.{Answer}
use Rattle.reading.specs.Leaves.{leaves_in, leaves, Tile, done, next, shifted_back, added_up}
use Rattle.reading.specs.Promises.{SumBack}
use Rattle.reading.proofs.Outcome.{rows_of, rows-sound, Rows, reading-rows}
use Rattle.reading.proofs.Reading.{accepted-read}

-- Rows that leave no gap.

module _ (v : ℕ) where
  pub tile-rows : (top : ℕ) (rows : List Row) → T (tiles top rows) → Tile top (map (record_of v) rows)
  unfolding record_of
  tile-rows top [] t = subst (λ (n : ℕ). Tile n []) (sym (eqb→eq top 0 t)) done
  tile-rows top (r ∷ rs) t =
      let u : T (leb 1 r.width && tiles r.start rs) = both_right (eqb (r.start + r.width) top) _ t in
      next (eqb→eq (r.start + r.width) top (both_left (eqb (r.start + r.width) top) _ t)) (leb→le 1 r.width (both_left (leb 1 r.width) _ u))
      (tile-rows r.start rs (both_right (leb 1 r.width) _ u))

  back-row : (r : Row) → 1 ≤ r.width → r.start + r.width ≤ 64 → shifted_back (record_of v r) ≡ (v / 2 ^ r.start % 2 ^ r.width) * 2 ^ r.start
  unfolding shifted_back record_of field_of
  back-row r a b = simp (le-leb 1 r.width a, le-leb (r.start + r.width) 64 b)

  pub sum_rows : (top : ℕ) (rows : List Row) → top ≤ 64 → T (tiles top rows) → added_up (map (record_of v) rows) ≡ v % 2 ^ top
  unfolding added_up
  sum_rows top [] h t = sym (ap (λ (n : ℕ). v % 2 ^ n) (eqb→eq top 0 t) ∙ mod-one v)
  sum_rows top (r ∷ rs) h t =
      let u : T (leb 1 r.width && tiles r.start rs) = both_right (eqb (r.start + r.width) top) _ t in
      let e : r.start + r.width ≡ top = eqb→eq (r.start + r.width) top (both_left (eqb (r.start + r.width) top) _ t) in
      let w : 1 ≤ r.width = leb→le 1 r.width (both_left (leb 1 r.width) _ u) in
      let f : r.width + r.start ≡ top = omega arith in
      let rest : added_up (map (record_of v) rs) ≡ v % 2 ^ r.start = sum_rows r.start rs (omega arith) (both_right (leb 1 r.width) _ u) in
      ap (λ (n : ℕ). n + added_up (map (record_of v) rs)) (back-row r w (omega arith))
      ∙ ap (λ (n : ℕ). (v / 2 ^ r.start % 2 ^ r.width) * 2 ^ r.start + n) rest
      ∙ sym (mod-pow-add v r.width r.start)
      ∙ ap (λ (n : ℕ). v % 2 ^ n) f

-- The rows of the leaves.

abbrev leaf_rows : ℕ → List Row → List Row
leaf_rows rule [] = top_rows rule
leaf_rows rule (r ∷ rs) = take 4 (top_rows rule) ++ (r ∷ rs)

leaf-tiles : (rule : ℕ) (rows : List Row) → T (tiled rows) → T (tiles 64 (leaf_rows rule rows))
unfolding top_rows
leaf-tiles rule [] t = tt
leaf-tiles rule (r ∷ rs) t = t

leaf-records : (v rule : ℕ) (rows : List Row) → leaves_in (map (record_of v) (top_rows rule ++ rows)) ≡ map (record_of v) (leaf_rows rule rows)
unfolding top_rows leaves_in
leaf-records v rule [] = refl
leaf-records v rule (r ∷ rs) = simp (lt-ltb 5 (suc (suc (suc (suc (suc (suc (length (map (record_of v) rs)))))))) (omega arith))

module _ (esr : ℕ) (r : Answer) (d : Decoded esr r) (h : r.refusal ≡ no_refusal) where
  -- the rows of the reading
  known : Rows esr (accepted-read esr r d h).list
  known = reading-rows esr (accepted-read esr r d h).list (accepted-read esr r d h).reading

  leaf_rows_of : List Row
  leaf_rows_of = leaf_rows known.layout.table.iss_rule (rows_of known.layout esr)

  leaves_are : leaves r.records ≡ map (record_of esr) leaf_rows_of
  unfolding leaves leaf_rows_of
  leaves_are =
      ap leaves (accepted-read esr r d h).records
      ∙ ap leaves_in (list-of (accepted-read esr r d h).list ∙ known.list)
      ∙ leaf-records esr known.layout.table.iss_rule (rows_of known.layout esr)

  at-tiles : T (tiles 64 leaf_rows_of)
  unfolding leaf_rows_of
  at-tiles = leaf-tiles known.layout.table.iss_rule (rows_of known.layout esr) (rows-sound esr known.layout known.classed).tile

  -- The leaves of an accepted value, taken from the answer's own record set, run from bit 63 to bit 0 without gap or overlap.
  pub leaves-tile : Tile 64 (leaves r.records)
  leaves-tile = subst (Tile 64) (sym leaves_are) (tile-rows esr 64 leaf_rows_of at-tiles)

  -- The leaves of an accepted value, shifted back, add up to the value.
  pub leaves-sum : esr < 2 ^ 64 → added_up (leaves r.records) ≡ esr
  leaves-sum small = ap added_up leaves_are ∙ sum_rows esr 64 leaf_rows_of (omega arith) at-tiles ∙ mod-eq_of_lt small

  -- What sum_back may answer of an accepted value's records is the value.
  pub sum_gives_back : esr < 2 ^ 64 → (sum : ℕ) → SumBack r.records sum → sum ≡ esr
  sum_gives_back small sum s = s ∙ ap (λ (n : ℕ). n % 2 ^ 64) (leaves-sum small) ∙ mod-eq_of_lt small
