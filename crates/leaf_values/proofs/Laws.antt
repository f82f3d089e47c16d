-- What the definitions give under the tests that the code made, and that a leaf lies in ISS, which follows from the tables' tiling.
use Prim.Native.Nat.{ℕ, zero, suc, ◌+◌, ◌-◌, ◌*◌, ◌%◌, ◌^◌, ◌≤◌, ◌<◌, max, min}
use mathlib.Core.Bool.{Bool, true, false, cond, and-false, ◌&&◌}
use mathlib.Core.List.{List, [], ◌∷◌, ◌++◌}
use mathlib.Core.Path.{◌≡◌, refl, sym, ap, ap₂, ◌∙◌}
use native.Mathlib.Nat.{lt_of_lt_of_le, zero-add}
use native.Mathlib.Omega.{arith}
use lib.Dec.{T, eqb, leb, ltb, eqb→eq}
use lib.ListN.{length, get_or, take, get_or-eq_default}
use lib.Pow.{pow_mono, shl_lt, shl_exact}
use lib.Seq.{get_or-take}
use borrow.Author.Tests.{eq-eqb, eqb-true, eqb-false, ne_eqb, lt-ltb, le-ltb, ltb-true, ltb-false}
use Rattle.layout_sets.specs.Fitting.{leaf_rows}
use Rattle.layouts.proofs.Indices.{layout-rows, number-sound}
use Rattle.layouts.specs.Layouts.{layout_for, pad, table_of}
use Rattle.layouts.specs.declared.Layout.{Layout}
use Rattle.leaf_values.specs.Leaves.{leaves_of, same_leaves, same_row, same_rows}
use Rattle.leaf_values.specs.Values.{all_below, leaf_row, may_be, put_at, room_of}
use Rattle.promise.proofs.Tests.{both_left, both_right}
use Rattle.records.proofs.Laws.{field_lt, shifted_one}
use Rattle.records.specs.Bits.{field_of}
use Rattle.records.specs.Rows.{meets}
use Rattle.records.specs.declared.Row.{Row}
use Rattle.std.proofs.Math.Bool.{and-true}
use Rattle.std.proofs.lemmas.List.Folds.{list_all-append}
use Rattle.std.specs.List.{list_all, range_with_len}
use Rattle.tables.proofs.Sound.{tiled, tiles}
use Rattle.tables.specs.Applying.{rows_for}
use Rattle.tables.specs.Shape.{Table}
use Rattle.tables.specs.Tables.{iss_under}

-- The leaves of a layout.

whole-none : (t : Table) (rows : List Row) → length rows ≡ 0 → leaf_rows t rows ≡ iss_under t.iss_rule ∷ []
whole-none t [] h = refl
whole-none t (r ∷ rs) h = absurd (omega arith)

whole-some : (t : Table) (rows : List Row) → (length rows ≡ 0 → ⊥) → leaf_rows t rows ≡ rows
whole-some t [] h = absurd (h refl)
whole-some t (r ∷ rs) h = refl

one-leaf : (r : Row) (index : ℕ) → (index ≡ 0 → ⊥) → get_or (r ∷ []) index pad ≡ pad
one-leaf r zero h = absurd (h refl)
one-leaf r (suc index) h = refl

module _ (number iss : ℕ) (l : Layout) (is : l ≡ layout_for (table_of number) iss) where
  counted : l.count ≡ length (rows_for (table_of number) iss)
  unfolding layout_for
  counted = ap (λ (x : Layout). x.count) is

  undivided_leaves : l.count ≡ 0 → leaves_of number iss ≡ iss_under l.rule ∷ []
  unfolding leaves_of layout_for
  undivided_leaves h = whole-none (table_of number) (rows_for (table_of number) iss) (sym counted ∙ h) ∙ ap (λ (x : Layout). iss_under x.rule ∷ []) (sym is)

  divided-leaves : (l.count ≡ 0 → ⊥) → leaves_of number iss ≡ take l.count l.rows
  unfolding leaves_of
  divided-leaves h =
      whole-some (table_of number) (rows_for (table_of number) iss) (λ z. h (counted ∙ z)) ∙ sym (layout-rows number iss l is)

  pub max-counted : max l.count 1 ≡ length (leaves_of number iss)
  max-counted = by-test (eqb l.count 0) refl
    where
      by-test : (b : Bool) → eqb l.count 0 ≡ b → max l.count 1 ≡ length (leaves_of number iss)
      by-test true e = rw (undivided_leaves (eqb-true l.count 0 e), eqb-true l.count 0 e)
      by-test false e =
          let all = counted ∙ ap length (sym (layout-rows number iss l is)) ∙ ap length (sym (divided-leaves (eqb-false l.count 0 e))) in
          omega (arith, all, eqb-false l.count 0 e)

  module _ (index : ℕ) where
    pub leaf-here : index < l.count → get_or l.rows index pad ≡ leaf_row number iss index
    unfolding leaf_row
    leaf-here h = rw (divided-leaves (λ z. omega arith), get_or-take l.count l.rows index pad h)

    pub leaf-past : l.count ≤ index → (l.count ≡ 0 → index ≡ 0 → ⊥) → pad ≡ leaf_row number iss index
    unfolding leaf_row
    leaf-past h n = by-test (eqb l.count 0) refl
      where
        by-test : (b : Bool) → eqb l.count 0 ≡ b → pad ≡ get_or (leaves_of number iss) index pad
        by-test true e =
            let z = eqb-true l.count 0 e in rw (undivided_leaves z) (sym (one-leaf (iss_under l.rule) index (n z)))
        by-test false e =
            let d = divided-leaves (eqb-false l.count 0 e) in
            sym (get_or-eq_default (leaves_of number iss) pad (omega (arith, max-counted, eqb-false l.count 0 e)))

    pub leaf-whole : l.count ≡ 0 → index ≡ 0 → iss_under l.rule ≡ leaf_row number iss index
    unfolding leaf_row
    leaf-whole z e = rw (undivided_leaves z, e)

-- Rows compared.

left : (a b c : Bool) → a && (b && c) ≡ (a && b) && c
left true b c = refl
left false b c = refl

-- the derived comparison groups its tests to the right
pub columns : (a b : Row)
    → eqb a.start b.start && (eqb a.width b.width && (eqb a.name b.name && (eqb a.long b.long && (eqb a.rule b.rule && eqb a.kind b.kind))))
    ≡ same_row a b
unfolding same_row
columns a b =
    let s = eqb a.start b.start in
    let w = eqb a.width b.width in
    let n = eqb a.name b.name in
    let l = eqb a.long b.long in
    let r = eqb a.rule b.rule in
    let k = eqb a.kind b.kind in
    left s w (n && (l && (r && k))) ∙ left (s && w) n (l && (r && k))
    ∙ left (s && w && n) l (r && k) ∙ left (s && w && n && l) r k

pub other-rule : (a b : Row) → a.start ≡ b.start → a.width ≡ b.width → a.name ≡ b.name → a.long ≡ b.long
    → (a.rule ≡ b.rule → ⊥) → false ≡ same_row a b
unfolding same_row
other-rule a b s w n l h =
    rw (
      eq-eqb a.start b.start s,
      eq-eqb a.width b.width w,
      eq-eqb a.name b.name n,
      eq-eqb a.long b.long l,
      ne_eqb a.rule b.rule h,
    )

pub other_lengths : (xs ys : List Row) → (length ys ≡ length xs → ⊥) → same_rows xs ys ≡ false
unfolding same_rows
other_lengths [] [] h = absurd (h refl)
other_lengths [] (y ∷ ys) h = refl
other_lengths (x ∷ xs) [] h = refl
other_lengths (x ∷ xs) (y ∷ ys) h =
    ap (λ (t : Bool). same_row x y && t) (other_lengths xs ys (λ e. h (ap suc e))) ∙ and-false (same_row x y)

-- Tests of all numbers of a range.

-- the last number of a range stands alone
pub range_more : (a n : ℕ) → range_with_len a (suc n) ≡ range_with_len a n ++ (a + n) ∷ []
range_more a zero = ap (λ (k : ℕ). k ∷ []) (omega arith)
range_more a (suc n) =
    ap (λ (l : List ℕ). a ∷ l)
    (range_more (a + 1) n ∙ ap (λ (k : ℕ). range_with_len (a + 1) n ++ k ∷ []) (omega arith))

pub all_is : (f : ℕ → Bool) (n : ℕ) → list_all f (range_with_len 0 n) ≡ all_below f n
unfolding all_below
all_is f zero = refl
all_is f (suc n) =
    ap (list_all f) (range_more 0 n) ∙ list_all-append f (range_with_len 0 n) ((0 + n) ∷ [])
    ∙ ap₂ ◌&&◌ (all_is f n) (and-true (f (0 + n)) ∙ ap f (zero-add n))

-- the first number of a range stands alone
shifted : (f : ℕ → Bool) (a n : ℕ)
    → list_all f (range_with_len (suc a) n) ≡ list_all (λ (i : ℕ). f (suc i)) (range_with_len a n)
shifted f a zero = refl
shifted f a (suc n) =
    let e : suc a + 1 ≡ suc (a + 1) = omega arith in
    ap (λ (b : Bool). f (suc a) && b) (ap (λ (k : ℕ). list_all f (range_with_len k n)) e ∙ shifted f (a + 1) n)

pub rows_are : (xs ys : List Row) → length xs ≡ length ys
    → list_all (λ (i : ℕ). same_row (get_or xs i pad) (get_or ys i pad)) (range_with_len 0 (length xs)) ≡ same_rows xs ys
unfolding same_rows
rows_are [] [] h = refl
rows_are [] (y ∷ ys) h = absurd (omega arith)
rows_are (x ∷ xs) [] h = absurd (omega arith)
rows_are (x ∷ xs) (y ∷ ys) h =
    ap (λ (b : Bool). same_row x y && b)
    (shifted (λ (i : ℕ). same_row (get_or (x ∷ xs) i pad) (get_or (y ∷ ys) i pad)) 0 (length xs)
    ∙ rows_are xs ys (omega arith))

-- A leaf lies in ISS: every table's rows tile it.

tile-within : (top : ℕ) (rows : List Row) → T (tiles top rows) → (i : ℕ) → (get_or rows i pad).start + (get_or rows i pad).width ≤ top
tile-within top [] t i = omega arith
tile-within top (r ∷ rs) t zero = omega (arith, eqb→eq (r.start + r.width) top (both_left (eqb (r.start + r.width) top) (leb 1 r.width && tiles r.start rs) t))
tile-within top (r ∷ rs) t (suc i) =
    let e = eqb→eq (r.start + r.width) top (both_left (eqb (r.start + r.width) top) (leb 1 r.width && tiles r.start rs) t) in
    let rest = both_right (leb 1 r.width) (tiles r.start rs) (both_right (eqb (r.start + r.width) top) (leb 1 r.width && tiles r.start rs) t) in
    omega (arith, e, tile-within r.start rs rest i)

whole-within : (t : Table) (rows : List Row) → T (tiled rows) → (i : ℕ) → (get_or (leaf_rows t rows) i pad).start + (get_or (leaf_rows t rows) i pad).width ≤ 25
whole-within t [] h zero = omega arith
whole-within t [] h (suc i) = omega arith
whole-within t (r ∷ rs) h i = tile-within 25 (r ∷ rs) h i

pub leaf-within : (number iss index : ℕ) → (leaf_row number iss index).start + (leaf_row number iss index).width ≤ 25
unfolding leaf_row leaves_of
leaf-within number iss index = whole-within (table_of number) (rows_for (table_of number) iss) (number-sound number iss).tile index

whole-few : (t : Table) (rows : List Row) → length rows ≤ 14 → length (leaf_rows t rows) ≤ 14
whole-few t [] h = omega arith
whole-few t (r ∷ rs) h = h

pub few-leaves : (number iss : ℕ) → length (leaves_of number iss) ≤ 14
unfolding leaves_of
few-leaves number iss = whole-few (table_of number) (rows_for (table_of number) iss) (number-sound number iss).few

-- Values put into a field.

module _ (iss start width x : ℕ) (within : start + width ≤ 25) (small : x < 64) where
  low_small : field_of iss 0 start < 2 ^ 25
  low_small = lt_of_lt_of_le (field_lt iss 0 start) (pow_mono {j = 25} (omega arith))

  value_exact : x * 2 ^ start % 2 ^ 64 ≡ x * 2 ^ start
  value_exact = shl_exact 6 start 64 small (omega arith)

  value-small : x * 2 ^ start % 2 ^ 64 < 2 ^ 31
  value-small = rw value_exact (lt_of_lt_of_le (shl_lt 6 start small) (pow_mono {j = 31} (omega arith)))

  abbrev rest : ℕ
  rest = 25 - (start + width)

  high_exact : field_of iss (start + width) rest * 2 ^ (start + width) % 2 ^ 64 ≡ field_of iss (start + width) rest * 2 ^ (start + width)
  high_exact = shl_exact rest (start + width) 64 (field_lt iss (start + width) rest) (omega arith)

  high_small : field_of iss (start + width) rest * 2 ^ (start + width) % 2 ^ 64 < 2 ^ 25
  high_small = rw high_exact (lt_of_lt_of_le (shl_lt rest (start + width) (field_lt iss (start + width) rest)) (pow_mono {j = 25} (omega arith)))

  module _ {low high : ℕ} (l : low ≡ field_of iss 0 start) (g : high ≡ field_of iss (start + width) rest) where
    pub two_fit : low + x * 2 ^ start % 2 ^ 64 < 2 ^ 32
    two_fit = rw l (omega (arith, low_small, value-small))

    pub three_fit : low + x * 2 ^ start % 2 ^ 64 + high * 2 ^ (start + width) % 2 ^ 64 < 2 ^ 33
    three_fit = rw (l, g) (omega (arith, low_small, value-small, high_small))

    pub put_is : low + x * 2 ^ start % 2 ^ 64 + high * 2 ^ (start + width) % 2 ^ 64 ≡ put_at iss start width x
    unfolding put_at
    put_is = rw (l, g, value_exact, high_exact)

-- The values that are looked at.

pub room_is : (width : ℕ) → 1 * 2 ^ min width 6 % 2 ^ 64 ≡ room_of width
unfolding room_of
room_is width = shifted_one 64 (min width 6) (omega arith) ∙ by-test (ltb width 6) refl
  where
    by-test : (b : Bool) → ltb width 6 ≡ b → 2 ^ min width 6 ≡ cond b (2 ^ width) 64
    by-test true e = let m : min width 6 ≡ width = omega (arith, ltb-true width 6 e) in rw m
    by-test false e = let m : min width 6 ≡ 6 = omega (arith, ltb-false width 6 e) in rw m

pub room_small : (width : ℕ) → room_of width ≤ 64
unfolding room_of
room_small width = by-test (ltb width 6) refl
  where
    by-test : (b : Bool) → ltb width 6 ≡ b → room_of width ≤ 64
    by-test true e = rw e (pow_mono {j = 6} (omega (arith, ltb-true width 6 e)))
    by-test false e = rw e (omega arith)

module _ (number iss index x : ℕ) (r : Row) (is : r ≡ leaf_row number iss index) where
  pub may_past : room_of r.width ≤ x → false ≡ may_be number iss index x
  unfolding may_be
  may_past h = rw (← is, le-ltb x (room_of r.width) h)

  module _ (h : x < room_of r.width) where
    pub may_unmet : meets (put_at iss r.start r.width x) r ≡ false → false ≡ may_be number iss index x
    unfolding may_be
    may_unmet e = rw (← is, lt-ltb x (room_of r.width) h, e)

    pub may_by_rows : meets (put_at iss r.start r.width x) r ≡ true → same_leaves number (put_at iss r.start r.width x) iss ≡ may_be number iss index x
    unfolding may_be
    may_by_rows e = rw (← is, lt-ltb x (room_of r.width) h, e)
