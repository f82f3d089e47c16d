-- Making and decoding are inverse (#106). What is packed has the leaves as its fields, so the rows that the leaves pick are those of the value; and the
-- fields of a value, at its own rows, pick these rows and pack to the value.
use Rattle.std.proofs.Common.{◌≡◌, ◌⊎◌, inl, inr, Result, Ok, Err, ℕ, suc, ◌+◌, ◌*◌, ◌%◌, ◌^◌, ◌<◌, Bool, true, false, true≢false, cond, ◌&&◌, T, ltb, List, [], ◌∷◌, ◌++◌, map, length, sym, refl, ap, ◌∙◌, subst, ap₂, mod-eq_of_lt, arith, eqb→eq, ltb→lt, lt→ltb, lt-ltb}
use Rattle.promise.proofs.Tests.{both_left, both_right, both_intro, true_is, is_true}
use mathlib.Core.List.{Memᴰ}
use Rattle.refusals.specs.Refusals.{refusal_number, passed, no_refusal, bare, carrying}
use Rattle.refusals.specs.declared.Reason.TheVariants.{InvalidEc, WideLeaf}
use Rattle.refusals.specs.declared.Refusal.{Refusal}
use Rattle.records.specs.Bits.{field_of}
use Rattle.records.specs.Kinds.{kind_of}
use Rattle.records.specs.Rows.{value_in, record_of, meets, refusal_of}
use Rattle.records.specs.Sets.{records_of}
use Rattle.records.specs.declared.Record.{Record}
use Rattle.records.specs.declared.Records.{Records}
use Rattle.records.specs.declared.Row.{Row}
use Rattle.records.proofs.Laws.{list-of, field_lt}
use Rattle.tables.specs.Shape.{Table}
use Rattle.tables.specs.Applying.{rows_for}
use Rattle.tables.specs.Tables.{reserved, top_rows}
use Rattle.tables.proofs.Sound.{tiles}
use Rattle.layouts.specs.Layouts.{layout_number, empty}
use Rattle.layouts.proofs.Indices.{number-sound}
use Rattle.layout_sets.specs.Fitting.{leaf_rows, Fits}
use Rattle.layout_sets.proofs.Fitting.{fits-own, own-fits}
use Rattle.esr.specs.Decode.{refused, accepted, failure_for, records_for, table_answer, class_of, iss_of, answer_of}
use Rattle.esr.specs.Promises.{Decoded}
use Rattle.esr.specs.declared.Answer.{Answer}
use Rattle.esr.proofs.Laws.{class-empty, class-filled, top-fails, top-passes}
use Rattle.reading.specs.Leaves.{leaves_in, leaves}
use Rattle.reading.proofs.HasBits.{inner}
use Rattle.reading.proofs.Outcome.{not_zero}
use Rattle.reading.proofs.Reading.{accepted_or_refused, refused-is}
use Rattle.reading.specs.Refusing.{refusing}
use Rattle.maker.specs.Making.{Choice, Chooses, unserved, unfit, fit, table_for, in_widths, packed, value_of, nothing, judged, made_at, made_of}
use Rattle.maker.specs.Parts.{Parts}
use Rattle.maker.specs.Promises.{Makes}
use Rattle.maker.proofs.Choosing.{number-regular, one_choice, leaf-tiles, fit-tiles, served_less, all_fit}
use Rattle.maker.proofs.Packing.{packed_less, packed_fields, packed-own, own_widths}

-- An accepted value, by the table of its class.

record Accepted (esr : ℕ) (r : Answer) : Type 0 where
  clear : field_of esr 37 27 ≡ 0
  served : layout_number (class_of esr) ≡ empty → ⊥
  records : r.records ≡ records_of (records_for (table_for (class_of esr)) esr (iss_of esr))

module _ (esr : ℕ) (r : Answer) (d : Decoded esr r) (h : r.refusal ≡ no_refusal) where
  not_refused : (f : Refusal) → r ≡ refused f → passed f ≡ false → ⊥
  not_refused f e n = subst T (ap passed (sym h ∙ refused-is r f e) ∙ n) tt

  top : meets esr reserved ≡ true
  unfolding refusal_of kind_of
  top = by (meets esr reserved) refl
    where
      by : (b : Bool) → meets esr reserved ≡ b → meets esr reserved ≡ true
      by true e = e
      by false e = absurd (not_refused (refusal_of esr reserved) (d ∙ sym (top-fails esr e)) refl)

  top-clear : field_of esr 37 27 ≡ 0
  unfolding meets kind_of
  top-clear = eqb→eq (field_of esr 37 27) 0 (is_true top)

  class-served : layout_number (class_of esr) ≡ empty → ⊥
  class-served e = not_refused (carrying InvalidEc (class_of esr)) (d ∙ sym (class-empty esr (layout_number (class_of esr)) refl e ∙ top-passes esr top)) refl

  by-table : r ≡ table_answer (table_for (class_of esr)) esr (iss_of esr)
  by-table = d ∙ sym (class-filled esr (layout_number (class_of esr)) refl class-served ∙ top-passes esr top)

  own-records : r.records ≡ records_of (records_for (table_for (class_of esr)) esr (iss_of esr))
  unfolding table_answer accepted
  own-records = by (passed (failure_for (table_for (class_of esr)) (iss_of esr))) refl
    where
      is : (b : Bool) → passed (failure_for (table_for (class_of esr)) (iss_of esr)) ≡ b
          → r ≡ cond b (accepted (records_for (table_for (class_of esr)) esr (iss_of esr))) (refused (failure_for (table_for (class_of esr)) (iss_of esr)))
      is b e =
          by-table ∙ ap (λ (c : Bool). cond c (accepted (records_for (table_for (class_of esr)) esr (iss_of esr))) (refused (failure_for (table_for (class_of esr)) (iss_of esr)))) e

      by : (b : Bool) → passed (failure_for (table_for (class_of esr)) (iss_of esr)) ≡ b → r.records ≡ records_of (records_for (table_for (class_of esr)) esr (iss_of esr))
      by true e = ap (λ (a : Answer). a.records) (is true e)
      by false e = absurd (not_refused (failure_for (table_for (class_of esr)) (iss_of esr)) (is false e) e)

  accepted-by : Accepted esr r
  accepted-by = record { clear = top-clear; served = class-served; records = own-records }

-- What the leaves of its records hold.

held : (v : ℕ) (rows : List Row) → map (λ (x : Record). x.value) (map (record_of v) rows) ≡ map (value_in v) rows
unfolding record_of
held v [] = refl
held v (r ∷ rs) = ap (λ (xs : List ℕ). value_in v r ∷ xs) (held v rs)

held-leaves : (t : Table) (esr : ℕ) (rows : List Row)
    → map (λ (x : Record). x.value) (leaves_in (map (record_of esr) (top_rows t.iss_rule) ++ map (record_of (iss_of esr)) rows))
    ≡ field_of esr 37 27 ∷ field_of esr 32 5 ∷ class_of esr ∷ field_of esr 25 1 ∷ map (value_in (iss_of esr)) (leaf_rows t rows)
unfolding top_rows leaves_in record_of
held-leaves t esr [] =
    ap (λ (n : ℕ). field_of esr 37 27 ∷ field_of esr 32 5 ∷ class_of esr ∷ field_of esr 25 1 ∷ n ∷ []) (sym (inner 25 esr 0 25 (omega arith)))
held-leaves t esr (r ∷ rs) =
    simp (lt-ltb 5 (suc (suc (suc (suc (suc (suc (length (map (record_of (iss_of esr)) rs)))))))) (omega arith))
    (ap (λ (xs : List ℕ). field_of esr 37 27 ∷ field_of esr 32 5 ∷ class_of esr ∷ field_of esr 25 1 ∷ value_in (iss_of esr) r ∷ xs) (held (iss_of esr) rs))

abbrev own_leaves : ℕ → ℕ → List ℕ
own_leaves class iss = map (value_in iss) (leaf_rows (table_for class) (rows_for (table_for class) iss))

parts_are : (esr : ℕ) (r : Answer) → Accepted esr r
    → map (λ (x : Record). x.value) (leaves r.records) ≡ 0 ∷ field_of esr 32 5 ∷ class_of esr ∷ field_of esr 25 1 ∷ own_leaves (class_of esr) (iss_of esr)
unfolding leaves records_for
parts_are esr r a =
    let t : Table = table_for (class_of esr) in
    ap (λ (s : Records). map (λ (x : Record). x.value) (leaves s)) a.records
    ∙ ap (λ (l : List Record). map (λ (x : Record). x.value) (leaves_in l)) (list-of (records_for t esr (iss_of esr)))
    ∙ held-leaves t esr (rows_for t (iss_of esr))
    ∙ ap (λ (n : ℕ). n ∷ field_of esr 32 5 ∷ class_of esr ∷ field_of esr 25 1 ∷ own_leaves (class_of esr) (iss_of esr)) a.clear

-- Every accepted value has its parts.
pub accepted-parts : (esr : ℕ) (r : Answer) → Decoded esr r → r.refusal ≡ no_refusal → (class il iss2 : ℕ) × (xs : List ℕ) × Parts r class il iss2 xs
accepted-parts esr r d h = (class_of esr, field_of esr 25 1, field_of esr 32 5, own_leaves (class_of esr) (iss_of esr), parts_are esr r (accepted-by esr r d h))

-- What is made.

module _ (rule class il iss2 iss : ℕ) where
  top-packed : packed (top_rows rule) (0 ∷ iss2 ∷ class ∷ il ∷ iss ∷ []) ≡ iss2 * 2 ^ 32 + (class * 2 ^ 26 + (il * 2 ^ 25 + iss))
  unfolding packed top_rows
  top-packed = omega arith

  top_fields : iss2 < 2 ^ 5 → class < 2 ^ 6 → il < 2 → iss < 2 ^ 25
      → (v : ℕ) → v ≡ iss2 * 2 ^ 32 + (class * 2 ^ 26 + (il * 2 ^ 25 + iss))
      → field_of v 37 27 ∷ field_of v 32 5 ∷ field_of v 26 6 ∷ field_of v 25 1 ∷ field_of v 0 25 ∷ [] ≡ 0 ∷ iss2 ∷ class ∷ il ∷ iss ∷ []
  unfolding top_rows in_widths
  top_fields a b c d v e =
      subst (λ (n : ℕ). map (value_in n) (top_rows rule) ≡ 0 ∷ iss2 ∷ class ∷ il ∷ iss ∷ []) (top-packed ∙ sym e)
      (packed_fields 64 (top_rows rule) (0 ∷ iss2 ∷ class ∷ il ∷ iss ∷ []) tt
      (both_intro (ltb iss2 (2 ^ 5)) _ (lt→ltb iss2 (2 ^ 5) a)
      (both_intro (ltb class (2 ^ 6)) _ (lt→ltb class (2 ^ 6) b)
      (both_intro (ltb il (2 ^ 1)) _ (lt→ltb il (2 ^ 1) c) (both_intro (ltb iss (2 ^ 25)) _ (lt→ltb iss (2 ^ 25) d) tt))))
      refl)

abbrev is_ok : Result ℕ Refusal → Bool
is_ok (Ok v) = true
is_ok (Err f) = false

abbrev value_in_ok : Result ℕ Refusal → ℕ
value_in_ok (Ok v) = v
value_in_ok (Err f) = 0

-- a decoded value that nothing is refused of carries no refusal
clear-of : (v : ℕ) → passed (answer_of v).refusal ≡ true → (answer_of v).refusal ≡ no_refusal
clear-of v h = by (accepted_or_refused v (answer_of v) refl)
  where
    by : ((answer_of v).refusal ≡ no_refusal) ⊎ Memᴰ (refusal_number (answer_of v).refusal) refusing → (answer_of v).refusal ≡ no_refusal
    by (inl e) = e
    by (inr m) = absurd (not_zero (answer_of v).refusal m (eqb→eq (refusal_number (answer_of v).refusal) 0 (is_true h)))

-- what is made decodes, and is judged a value
judged-is : (u v : ℕ) → Ok v ≡ judged u → (v ≡ u) × ((answer_of u).refusal ≡ no_refusal)
unfolding judged
judged-is u v e = by (passed (answer_of u).refusal) refl e
  where
    by : (b : Bool) → passed (answer_of u).refusal ≡ b → Ok v ≡ cond b (Ok u) (Err (answer_of u).refusal)
        → (v ≡ u) × ((answer_of u).refusal ≡ no_refusal)
    by true h e = (ap value_in_ok e, clear-of u h)
    by false h e = absurd (true≢false (ap is_ok e))

module _ (class il iss2 : ℕ) (xs : List ℕ) (served : layout_number class ≡ empty → ⊥) (rows : List Row) (f : Fits (table_for class) xs rows) where
  -- leaves in their widths, at rows that they fit: an accepted value has the parts that it was packed from
  made-parts : T (in_widths (leaf_rows (table_for class) rows) xs && (ltb iss2 (2 ^ 5) && ltb il 2))
      → (r : Answer) → Decoded (value_of class il iss2 (leaf_rows (table_for class) rows) xs) r → r.refusal ≡ no_refusal → Parts r class il iss2 xs
  unfolding value_of
  made-parts w r d h =
      let t : Table = table_for class in
      let set : List Row = leaf_rows t rows in
      let iss : ℕ = packed set xs in
      let v : ℕ = iss2 * 2 ^ 32 + (class * 2 ^ 26 + (il * 2 ^ 25 + iss)) in
      let tile : T (tiles 25 set) = fit-tiles (layout_number class) xs rows f in
      let w₁ : T (in_widths set xs) = both_left (in_widths set xs) _ w in
      let w₂ : T (ltb iss2 (2 ^ 5) && ltb il 2) = both_right (in_widths set xs) _ w in
      let w₃ : iss2 < 2 ^ 5 = ltb→lt iss2 (2 ^ 5) (both_left (ltb iss2 (2 ^ 5)) _ w₂) in
      let w₄ : il < 2 = ltb→lt il 2 (both_right (ltb iss2 (2 ^ 5)) _ w₂) in
      let fields : field_of v 37 27 ∷ field_of v 32 5 ∷ field_of v 26 6 ∷ field_of v 25 1 ∷ field_of v 0 25 ∷ [] ≡ 0 ∷ iss2 ∷ class ∷ il ∷ iss ∷ [] =
      top_fields t.iss_rule class il iss2 iss w₃ (served_less class (layout_number class) refl served) w₄ (packed_less 25 set xs tile w₁) v refl in
      let own : map (value_in iss) set ≡ xs = packed_fields 25 set xs tile w₁ f.many in
      let same : rows_for t iss ≡ rows = own-fits t (number-regular (layout_number class)) iss rows (subst (λ (ys : List ℕ). Fits t ys rows) (sym own) f) in
      let c : field_of v 26 6 ≡ class = cc in
      let i : field_of v 0 25 ≡ iss = cc in
      let a : field_of v 32 5 ≡ iss2 = cc in
      let b : field_of v 25 1 ≡ il = cc in
      let own-leaves : own_leaves (field_of v 26 6) (field_of v 0 25) ≡ xs =
      ap₂ own_leaves c i ∙ ap (λ (rs : List Row). map (value_in iss) (leaf_rows t rs)) same ∙ own in
      parts_are v r (accepted-by v r d h)
      ∙ ap₂ (λ (n : ℕ) (ns : List ℕ). 0 ∷ n ∷ ns) a (ap₂ (λ (n : ℕ) (ns : List ℕ). n ∷ ns) c (ap₂ (λ (n : ℕ) (ns : List ℕ). n ∷ ns) b own-leaves))

  module _ (v : ℕ) (e : Ok v ≡ made_at class il iss2 (leaf_rows (table_for class) rows) xs) where
    made_at_lem : (r : Answer) → Decoded v r → (r.refusal ≡ no_refusal) × Parts r class il iss2 xs
    unfolding made_at
    made_at_lem r d = by (in_widths (leaf_rows (table_for class) rows) xs && (ltb iss2 (2 ^ 5) && ltb il 2)) refl
      where
        is : (b : Bool) → in_widths (leaf_rows (table_for class) rows) xs && (ltb iss2 (2 ^ 5) && ltb il 2) ≡ b
            → Ok v ≡ cond b (judged (value_of class il iss2 (leaf_rows (table_for class) rows) xs)) (nothing (bare WideLeaf))
        is b w = e ∙ ap (λ (c : Bool). cond c (judged (value_of class il iss2 (leaf_rows (table_for class) rows) xs)) (nothing (bare WideLeaf))) w

        by : (b : Bool) → in_widths (leaf_rows (table_for class) rows) xs && (ltb iss2 (2 ^ 5) && ltb il 2) ≡ b → (r.refusal ≡ no_refusal) × Parts r class il iss2 xs
        by true w =
            let u : ℕ = value_of class il iss2 (leaf_rows (table_for class) rows) xs in
            let j : (v ≡ u) × ((answer_of u).refusal ≡ no_refusal) = judged-is u v (is true w) in
            let d' : Decoded u r = subst (λ (n : ℕ). Decoded n r) j.0 d in
            let ok : r.refusal ≡ no_refusal = ap (λ (a : Answer). a.refusal) d' ∙ j.1 in
            (ok, made-parts (is_true w) r d' ok)
        by false w = absurd (true≢false (ap is_ok (is false w)))

-- What is made decodes to exactly those leaves, that class, that IL and that ISS2.
pub made-decodes : (class il iss2 : ℕ) (xs : List ℕ) (v : ℕ) → Makes (class, il, iss2, xs) (Ok v)
    → (r : Answer) → Decoded v r → (r.refusal ≡ no_refusal) × Parts r class il iss2 xs
made-decodes class il iss2 xs v p r d = by p.1 p.2
  where
    by : {c : Choice} → Chooses class xs c → Ok v ≡ made_of class il iss2 xs c → (r.refusal ≡ no_refusal) × Parts r class il iss2 xs
    by (unserved n) e = absurd (true≢false (ap is_ok e))
    by (unfit n k) e = absurd (true≢false (ap is_ok e))
    by (fit n rows f) e = made_at_lem class il iss2 xs n rows f v e r d

-- The other way round.

module _ (esr : ℕ) (r : Answer) (d : Decoded esr r) (h : r.refusal ≡ no_refusal) (small : esr < 2 ^ 64) where
  abbrev table : Table
  table = table_for (class_of esr)

  abbrev set : List Row
  set = leaf_rows (table_for (class_of esr)) (rows_for (table_for (class_of esr)) (iss_of esr))

  -- its parts pack to it
  own_value : value_of (class_of esr) (field_of esr 25 1) (field_of esr 32 5) set (map (value_in (iss_of esr)) set) ≡ esr
  unfolding value_of packed top_rows
  own_value =
      let whole : packed (top_rows table.iss_rule) (map (value_in esr) (top_rows table.iss_rule)) ≡ esr % 2 ^ 64 = packed-own esr 64 (top_rows table.iss_rule) tt in
      let low : packed set (map (value_in (iss_of esr)) set) ≡ iss_of esr % 2 ^ 25 =
      packed-own (iss_of esr) 25 set (leaf-tiles table (rows_for table (iss_of esr)) (number-sound (layout_number (class_of esr)) (iss_of esr)).tile) in
      let own : iss_of esr % 2 ^ 25 ≡ iss_of esr = mod-eq_of_lt (field_lt esr 0 25) in
      let all : esr % 2 ^ 64 ≡ esr = mod-eq_of_lt small in
      omega (arith, whole, low, own, all, top-clear esr r d h)

  judged-own : judged esr ≡ Ok esr
  unfolding judged
  judged-own =
      ap (λ (f : Refusal). cond (passed f) (Ok esr) (Err f)) (sym (ap (λ (a : Answer). a.refusal) d) ∙ h)

  own-made : (m : Result ℕ Refusal) → Makes (class_of esr, field_of esr 25 1, field_of esr 32 5, own_leaves (class_of esr) (iss_of esr)) m → m ≡ Ok esr
  own-made m p =
      let rows : List Row = rows_for table (iss_of esr) in
      let f : Fits table (map (value_in (iss_of esr)) set) rows = fits-own table (number-regular (layout_number (class_of esr))) (iss_of esr) in
      p.2
      ∙ ap (made_of (class_of esr) (field_of esr 25 1) (field_of esr 32 5) (map (value_in (iss_of esr)) set))
      (one_choice (class_of esr) (map (value_in (iss_of esr)) set) p.1 (fit (class-served esr r d h) rows f))
      ∙ sym
      (all_fit (class_of esr) (field_of esr 25 1) (field_of esr 32 5) set (map (value_in (iss_of esr)) set) (true_is (in_widths set (map (value_in (iss_of esr)) set)) (own_widths (iss_of esr) set))
      (field_lt esr 32 5) (field_lt esr 25 1))
      ∙ ap judged own_value
      ∙ judged-own

  -- Any accepted value's class, IL, ISS2 and ISS leaves make that value again.
  pub parts_make : (class il iss2 : ℕ) (xs : List ℕ) → Parts r class il iss2 xs → (m : Result ℕ Refusal) → Makes (class, il, iss2, xs) m → m ≡ Ok esr
  parts_make class il iss2 xs p m k =
      let e : 0 ∷ iss2 ∷ class ∷ il ∷ xs ≡ 0 ∷ field_of esr 32 5 ∷ class_of esr ∷ field_of esr 25 1 ∷ own_leaves (class_of esr) (iss_of esr) =
      sym p ∙ parts_are esr r (accepted-by esr r d h) in
      let c : class ≡ class_of esr = cc in
      let a : iss2 ≡ field_of esr 32 5 = cc in
      let b : il ≡ field_of esr 25 1 = cc in
      let l : xs ≡ own_leaves (class_of esr) (iss_of esr) = cc in
      own-made m
      (subst (λ (n : ℕ). Makes (n, field_of esr 25 1, field_of esr 32 5, own_leaves (class_of esr) (iss_of esr)) m) c
      (subst (λ (n : ℕ). Makes (class, n, field_of esr 32 5, own_leaves (class_of esr) (iss_of esr)) m) b
      (subst (λ (n : ℕ). Makes (class, il, n, own_leaves (class_of esr) (iss_of esr)) m) a (subst (λ (ns : List ℕ). Makes (class, il, iss2, ns) m) l k))))

  -- A make that is refused has no value that would have served.
  pub refused_none : (class il iss2 : ℕ) (xs : List ℕ) (f : Refusal) → Makes (class, il, iss2, xs) (Err f) → Parts r class il iss2 xs → ⊥
  refused_none class il iss2 xs f k p = true≢false (sym (ap is_ok (parts_make class il iss2 xs p (Err f) k)))
