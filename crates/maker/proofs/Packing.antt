-- Leaves in their widths, packed at rows that leave no gap, are the fields of what they pack to; and the fields of a value, packed, are the value: one
-- induction over the rows for each.
use Rattle.std.proofs.Common.{◌≡◌, ℕ, ◌+◌, ◌*◌, ◌/◌, ◌%◌, ◌^◌, ◌<◌, ◌&&◌, T, eqb, ltb, leb, List, [], ◌∷◌, map, length, sym, refl, ap, ◌∙◌, subst, ap₂, mod-eq_of_lt, add_comm, arith, eqb→eq, ltb→lt, lt→ltb, pow_pos, pow-add}
use native.Mathlib.Nat.{mod-one}
use lib.Arith.{digits_lt}
use lib.Pow.{high, low, field, mod-pow-add, mod-mod-pow}
use Rattle.promise.proofs.Tests.{both_left, both_right, both_intro}
use Rattle.records.specs.Bits.{field_of}
use Rattle.records.specs.Rows.{value_in}
use Rattle.records.specs.declared.Row.{Row}
use Rattle.records.proofs.Laws.{field_lt}
use Rattle.tables.proofs.Sound.{tiles}
use Rattle.maker.specs.Making.{in_widths, packed}

-- the first of rows that leave no gap lies at the top, and the others do so below it
pub record First (top : ℕ) (r : Row) (rs : List Row) : Type 0 where
  pub end : r.start + r.width ≡ top
  pub rest : T (tiles r.start rs)

pub first : (top : ℕ) (r : Row) (rs : List Row) → T (tiles top (r ∷ rs)) → First top r rs
first top r rs t =
    let u : T (leb 1 r.width && tiles r.start rs) = both_right (eqb (r.start + r.width) top) _ t in
    record { end = eqb→eq (r.start + r.width) top (both_left (eqb (r.start + r.width) top) _ t); rest = both_right (leb 1 r.width) _ u }

-- What is packed is below the top.
pub packed_less : (top : ℕ) (rows : List Row) (xs : List ℕ) → T (tiles top rows) → T (in_widths rows xs) → packed rows xs < 2 ^ top
unfolding packed in_widths
packed_less top [] xs t w = pow_pos top
packed_less top (r ∷ rs) [] t w = pow_pos top
packed_less top (r ∷ rs) (x ∷ xs) t w =
    let f : First top r rs = first top r rs t in
    let less : packed rs xs < 2 ^ r.start = packed_less r.start rs xs f.rest (both_right (ltb x (2 ^ r.width)) _ w) in
    let h : x < 2 ^ r.width = ltb→lt x (2 ^ r.width) (both_left (ltb x (2 ^ r.width)) _ w) in
    subst (λ n. x * 2 ^ r.start + packed rs xs < 2 ^ n) (add_comm r.width r.start ∙ f.end) (below r.width r.start h less)
  where
    below : {a b : ℕ} (j k : ℕ) → a < 2 ^ j → b < 2 ^ k → a * 2 ^ k + b < 2 ^ (j + k)
    below {a} {b} j k h l = subst (λ n. a * 2 ^ k + b < n) (sym (pow-add 2 j k)) (digits_lt h l)

-- Fields of rows below a bit depend on the bits below it alone.
pub same_low : (top v u : ℕ) (rows : List Row) → T (tiles top rows) → v % 2 ^ top ≡ u % 2 ^ top → map (value_in v) rows ≡ map (value_in u) rows
unfolding field_of
same_low top v u [] t e = refl
same_low top v u (r ∷ rs) t e =
    let f : First top r rs = first top r rs t in
    let n : r.width + r.start ≡ top = add_comm r.width r.start ∙ f.end in
    let q : v % 2 ^ (r.width + r.start) ≡ u % 2 ^ (r.width + r.start) = subst (λ k. v % 2 ^ k ≡ u % 2 ^ k) (sym n) e in
    ap₂ ◌∷◌
    (sym (field v r.width r.start) ∙ ap (λ k. k / 2 ^ r.start) q ∙ field u r.width r.start)
    (same_low r.start v u rs f.rest
    (sym (mod-mod-pow v r.width r.start) ∙ ap (λ k. k % 2 ^ r.start) q ∙ mod-mod-pow u r.width r.start))

-- What is packed has the leaves as its fields.
pub packed_fields : (top : ℕ) (rows : List Row) (xs : List ℕ) → T (tiles top rows) → T (in_widths rows xs) → length rows ≡ length xs → map (value_in (packed rows xs)) rows ≡ xs
unfolding packed in_widths field_of
packed_fields top [] [] t w m = refl
packed_fields top [] (x ∷ xs) t w m = absurd (omega arith)
packed_fields top (r ∷ rs) [] t w m = absurd (omega arith)
packed_fields top (r ∷ rs) (x ∷ xs) t w m =
    let f : First top r rs = first top r rs t in
    let v : ℕ = x * 2 ^ r.start + packed rs xs in
    let wide : T (in_widths rs xs) = both_right (ltb x (2 ^ r.width)) _ w in
    let less : packed rs xs < 2 ^ r.start = packed_less r.start rs xs f.rest wide in
    let h : x < 2 ^ r.width = ltb→lt x (2 ^ r.width) (both_left (ltb x (2 ^ r.width)) _ w) in
    ap₂ ◌∷◌
    (ap (λ k. k % 2 ^ r.width) (high x r.start less) ∙ mod-eq_of_lt h)
    (same_low r.start v (packed rs xs) rs f.rest (low x r.start less ∙ sym (mod-eq_of_lt less))
    ∙ packed_fields r.start rs xs f.rest wide (omega arith))

-- The fields of a value, packed, are its bits below the top.
module _ (v : ℕ) where
  pub packed-own : (top : ℕ) (rows : List Row) → T (tiles top rows) → packed rows (map (value_in v) rows) ≡ v % 2 ^ top
  unfolding packed field_of
  packed-own top [] t = sym (ap (λ n. v % 2 ^ n) (eqb→eq top 0 t) ∙ mod-one v)
  packed-own top (r ∷ rs) t =
      let f : First top r rs = first top r rs t in
      ap (λ n. (v / 2 ^ r.start % 2 ^ r.width) * 2 ^ r.start + n) (packed-own r.start rs f.rest)
      ∙ sym (mod-pow-add v r.width r.start)
      ∙ ap (λ n. v % 2 ^ n) (add_comm r.width r.start ∙ f.end)

  pub own_widths : (rows : List Row) → T (in_widths rows (map (value_in v) rows))
  unfolding in_widths
  own_widths [] = tt
  own_widths (r ∷ rs) = both_intro (ltb (value_in v r) (2 ^ r.width)) _ (lt→ltb (value_in v r) (2 ^ r.width) (field_lt v r.start r.width)) (own_widths rs)
