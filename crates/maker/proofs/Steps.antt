-- The loops turn by turn: of rows and leaves side by side either one ends, or both have a next; and the test of a width.
use Rattle.std.proofs.Common.{◌≡◌, ◌⊎◌, inl, inr, ℕ, suc, ◌+◌, ◌*◌, ◌%◌, ◌^◌, ◌<◌, Bool, true, false, ◌&&◌, eqb, ltb, List, [], ◌∷◌, sym, ap, ◌∙◌, subst, ap₂, refl, add-zero, add_assoc, mod-eq_of_lt, div-one, arith, ltb-false, ltb-true, eq-eqb, ne_eqb}
use native.Mathlib.Nat.{add-mod-mod, mod-add-mod}
use Rattle.std.specs.List.{list_all, zip}
use Rattle.records.specs.Bits.{field_of}
use Rattle.records.specs.declared.Row.{Row}
use Rattle.records.proofs.Laws.{field_lt}
use Rattle.layout_sets.specs.Fitting.{leaf_at}
use Rattle.maker.specs.Laid.{Low}
use Rattle.maker.specs.Making.{in_widths, packed}

-- A number fits a width if its lowest bits, so many, are all of it.

field-whole : (x w : ℕ) → x < 2 ^ w → field_of x 0 w ≡ x
unfolding field_of
field-whole x w h = ap (λ n. n % 2 ^ w) (div-one x) ∙ mod-eq_of_lt h

width_fits : (x w : ℕ) → field_of x 0 w ≡ x → x < 2 ^ w
width_fits x w e = subst (λ n. n < 2 ^ w) e (field_lt x 0 w)

width-test : (x w : ℕ) → eqb (field_of x 0 w) x ≡ ltb x (2 ^ w)
width-test x w = by (ltb x (2 ^ w)) refl
  where
    by : (b : Bool) → ltb x (2 ^ w) ≡ b → eqb (field_of x 0 w) x ≡ ltb x (2 ^ w)
    by true e = eq-eqb (field_of x 0 w) x (field-whole x w (ltb-true x (2 ^ w) e)) ∙ sym e
    by false e =
        ne_eqb (field_of x 0 w) x (λ f. absurd (omega (arith, width_fits x w f, ltb-false x (2 ^ w) e))) ∙ sym e

abbrev pub fits_width : Row × ℕ → Bool
fits_width p = eqb (field_of p.1 0 p.0.width) p.1

pub widths-all : (rows : List Row) (leaves : List ℕ) → list_all fits_width (zip rows leaves) ≡ in_widths rows leaves
unfolding in_widths
widths-all [] xs = refl
widths-all (r ∷ rs) [] = refl
widths-all (r ∷ rs) (x ∷ xs) = ap₂ ◌&&◌ (width-test x r.width) (widths-all rs xs)

-- The end.

pub no_leaf : (rows : List Row) (leaves : List ℕ) (s w : ℕ) → (rows ≡ []) ⊎ (leaves ≡ []) → leaf_at rows leaves s w ≡ 0
no_leaf rows leaves s w (inl e) = ap (λ (rs : List Row). leaf_at rs leaves s w) e
no_leaf [] leaves s w (inr e) = refl
no_leaf (r ∷ rs) leaves s w (inr e) = ap (λ (xs : List ℕ). leaf_at (r ∷ rs) xs s w) e

none_packed : (rows : List Row) (leaves : List ℕ) → (rows ≡ []) ⊎ (leaves ≡ []) → packed rows leaves ≡ 0
unfolding packed
none_packed rows leaves (inl e) = ap (λ (rs : List Row). packed rs leaves) e
none_packed [] leaves (inr e) = refl
none_packed (r ∷ rs) leaves (inr e) = ap (packed (r ∷ rs)) e

pub pack_end : (rows : List Row) (leaves : List ℕ) (sum : ℕ) → sum < 2 ^ 64 → (rows ≡ []) ⊎ (leaves ≡ [])
    → (sum + packed rows leaves) % 2 ^ 64 ≡ sum
pack_end rows leaves sum small e =
    ap (λ (k : ℕ). (sum + k) % 2 ^ 64) (none_packed rows leaves e) ∙ ap (λ (k : ℕ). k % 2 ^ 64) (add-zero sum)
    ∙ mod-eq_of_lt small

-- A turn.
module _ {rows : List Row} {r : Row} {rs : List Row} (first : rows ≡ r ∷ rs) where
  pub low_rest : Low rows → Low rs
  low_rest low i h = let l : Low (r ∷ rs) = subst Low first low in l (suc i) (omega (arith, h))

  -- one leaf more, modulo 2^64
  pub pack_step : {leaves : List ℕ} {x : ℕ} {xs : List ℕ} → leaves ≡ x ∷ xs → (sum : ℕ)
      → (sum + packed rows leaves) % 2 ^ 64 ≡ ((sum + x * 2 ^ r.start % 2 ^ 64) % 2 ^ 64 + packed rs xs) % 2 ^ 64
  unfolding packed
  pack_step {x = x} {xs = xs} e sum =
      let n : ℕ = x * 2 ^ r.start in
      let rest : ℕ = packed rs xs in
      ap (λ (k : ℕ). (sum + k) % 2 ^ 64) (ap₂ packed first e)
      ∙ ap (λ (k : ℕ). k % 2 ^ 64) (sym (add_assoc sum n rest))
      ∙ sym (ap (λ (k : ℕ). (k + rest) % 2 ^ 64) (add-mod-mod sum n (2 ^ 64)) ∙ mod-add-mod (sum + n) (2 ^ 64) rest)
