-- Whether a value fits its width, as the code asks: by two shifts, since a shift by 64 would be none; and whether such a field lies within the 64 bits
-- of a value, with no sum that could wrap.
use mathlib.Core.Path.{◌≡◌, refl, sym, ap, ◌∙◌}
use mathlib.Core.Bool.{Bool, true, false}
use Prim.Native.Nat.{ℕ, ◌+◌, ◌-◌, ◌*◌, ◌/◌, ◌^◌, ◌≤◌, ◌<◌}
use native.Mathlib.Nat.{div-eq_of_lt, one-mul, div-lt_iff_lt-mul}
use native.Mathlib.Omega.{arith}
use borrow.Author.Tests.{eqb-true, eqb-false, lt-ltb, le-ltb, le-leb, lt-leb, leb-true, leb-false}
use lib.Dec.{T, eqb, leb, leb→le}
use lib.Pow.{shr-shr, pow_pos}
use Rattle.promise.proofs.Tests.{both_left, both_right, true_is, is_true}
use Rattle.written.specs.Requested.{fits, names_field}

module _ (w v : ℕ) where
  whole : 1 ≤ w → v / 2 ^ (w - 1) / 2 ^ 1 ≡ v / 2 ^ w
  whole h = let e : (w - 1) + 1 ≡ w = omega arith in shr-shr v (w - 1) 1 ∙ ap (λ (k : ℕ). v / 2 ^ k) e

  big_value : 1 ≤ w → w ≤ 64 → (v / 2 ^ (w - 1) / 2 ^ 1 ≡ 0 → ⊥) → fits w v ≡ false
  unfolding fits
  big_value h k m =
      let n : v < 2 ^ w → ⊥ = λ q. m (whole h ∙ div-eq_of_lt q) in
      let n' : 2 ^ w ≤ v = omega arith in
      rw (le-leb 1 w h, le-leb w 64 k, le-ltb v (2 ^ w) n')

  good_value : 1 ≤ w → w ≤ 64 → v / 2 ^ (w - 1) / 2 ^ 1 ≡ 0 → fits w v ≡ true
  unfolding fits
  good_value h k m =
      let m' : v / 2 ^ w ≡ 0 = sym (whole h) ∙ m in
      let q : v / 2 ^ w < 1 = omega arith in
      let n : v < 1 * 2 ^ w = (div-lt_iff_lt-mul (pow_pos w)).0 q in
      let n' : v < 2 ^ w = rw one-mul at n in
      rw (le-leb 1 w h, le-leb w 64 k, lt-ltb v (2 ^ w) n')

  pub by_shifts : 1 ≤ w → w ≤ 64 → eqb (v / 2 ^ (w - 1) / 2 ^ 1) 0 ≡ fits w v
  by_shifts a b = by-test (eqb (v / 2 ^ (w - 1) / 2 ^ 1) 0) refl
    where
      by-test : (t : Bool) → eqb (v / 2 ^ (w - 1) / 2 ^ 1) 0 ≡ t → t ≡ fits w v
      by-test true e = sym (good_value a b (eqb-true (v / 2 ^ (w - 1) / 2 ^ 1) 0 e))
      by-test false e = sym (big_value a b (eqb-false (v / 2 ^ (w - 1) / 2 ^ 1) 0 e))

  -- a width that a value fits
  pub width_small : fits w v ≡ true → w ≤ 64
  unfolding fits
  width_small h = leb-true w 64 (true_is (leb w 64) (both_left (leb w 64) _ (both_right (leb 1 w) _ (is_true h))))

-- a field of a value
module _ (start width value : ℕ) where
  pub no_field : fits width value ≡ false → names_field start width value ≡ false
  unfolding names_field
  no_field h = rw h

  pub within : fits width value ≡ true → leb start (64 - width) ≡ names_field start width value
  unfolding names_field
  within h = let w : width ≤ 64 = width_small width value h in rw h (by-test (leb start (64 - width)) refl w)
    where
      by-test : (t : Bool) → leb start (64 - width) ≡ t → width ≤ 64 → t ≡ leb (start + width) 64
      by-test true e w = sym (le-leb (start + width) 64 (omega (arith, leb-true start (64 - width) e)))
      by-test false e w = sym (lt-leb (start + width) 64 (omega (arith, leb-false start (64 - width) e)))

  pub field-small : names_field start width value ≡ true → (start ≤ 64) × (width ≤ 64)
  unfolding names_field
  field-small h =
      let f : T (fits width value) = both_left (fits width value) _ (is_true h) in
      let e : start + width ≤ 64 = leb→le (start + width) 64 (both_right (fits width value) _ (is_true h)) in
      (omega arith, width_small width value (true_is (fits width value) f))
