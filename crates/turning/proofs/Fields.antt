-- Values that differ only inside a field hold the same in every field that shares no bit with it: what stands above the field and below it is the same.
use mathlib.Core.Path.{◌≡◌, refl, sym, ap, ap₂, ◌∙◌, subst}
use mathlib.Core.Logic.{◌⊎◌, inl, inr}
use Prim.Native.Nat.{ℕ, ◌+◌, ◌-◌, ◌*◌, ◌/◌, ◌%◌, ◌^◌, ◌≤◌, ◌<◌}
use native.Mathlib.Nat.{div-one, mod-lt}
use native.Mathlib.Omega.{arith}
use lib.Pow.{pow_pos, high, low, shr-shr, split}
use Rattle.records.specs.Bits.{field_of}
use Rattle.reading.specs.Reading.{HasBits}
use Rattle.reading.proofs.HasBits.{inner}
use Rattle.turning.specs.Turning.{Field, DifferInside}

-- two fields share no bit: one ends where the other starts, or before
abbrev pub Apart : Field → Field → Type 0
Apart f g = (f.start + f.width ≤ g.start) ⊎ (g.start + g.width ≤ f.start)

module _ {v s w x : ℕ} (h : HasBits v s w x) (start width : ℕ) where
  above-field : s + w ≤ start → field_of v start width ≡ field_of h.above (start - (s + w)) width
  unfolding field_of
  above-field q =
      let j : ℕ = start - (s + w) in
      let e : start ≡ s + (w + j) = omega arith in
      ap (λ (n : ℕ). v / 2 ^ n % 2 ^ width) e
      ∙ ap (λ (n : ℕ). n % 2 ^ width)
      (sym (shr-shr v s (w + j))
      ∙ ap (λ (n : ℕ). n / 2 ^ (w + j)) (ap (λ (n : ℕ). n / 2 ^ s) h.whole ∙ high (h.above * 2 ^ w + x) s h.small)
      ∙ sym (shr-shr (h.above * 2 ^ w + x) w j)
      ∙ ap (λ (n : ℕ). n / 2 ^ j) (high h.above w h.fits))

  lowest : field_of v 0 s ≡ h.below
  unfolding field_of
  lowest = ap (λ (n : ℕ). n % 2 ^ s) (div-one v ∙ h.whole) ∙ low (h.above * 2 ^ w + x) s h.small

  below_field : start + width ≤ s → field_of v start width ≡ field_of h.below start width
  below_field q = sym (inner s v start width q) ∙ ap (λ (n : ℕ). field_of n start width) lowest

pub apart-same : {f : Field} {v w : ℕ} → DifferInside f v w → (g : Field) → Apart f g → field_of v g.start g.width ≡ field_of w g.start g.width
apart-same {f} d g (inl q) =
    above-field d.first g.start g.width q
    ∙ ap (λ (n : ℕ). field_of n (g.start - (f.start + f.width)) g.width) d.above
    ∙ sym (above-field d.second g.start g.width q)
apart-same d g (inr q) =
    below_field d.first g.start g.width q ∙ ap (λ (n : ℕ). field_of n g.start g.width) d.below ∙ sym (below_field d.second g.start g.width q)

-- a value's bits, with what stands above them and below them
unfoldable own_bits : (v s w a b : ℕ) → v / 2 ^ s / 2 ^ w ≡ a → v % 2 ^ s ≡ b → HasBits v s w (v / 2 ^ s % 2 ^ w)
own_bits v s w a b p q =
    record {
      above = a;
      below = b;
      fits = mod-lt (v / 2 ^ s) (pow_pos w);
      small = subst (λ (n : ℕ). n < 2 ^ s) q (mod-lt v (pow_pos s));
      whole = sym (ap₂ (λ (m n : ℕ). (m * 2 ^ w + v / 2 ^ s % 2 ^ w) * 2 ^ s + n) (sym p) (sym q) ∙ ap (λ (k : ℕ). k * 2 ^ s + v % 2 ^ s) (split (v / 2 ^ s) w) ∙ split v s);
    }

-- Values that are equal above a field and below it differ only inside it.
pub differ-by : (f : Field) (v w : ℕ) → v / 2 ^ f.start / 2 ^ f.width ≡ w / 2 ^ f.start / 2 ^ f.width → v % 2 ^ f.start ≡ w % 2 ^ f.start → DifferInside f v w
unfolding own_bits
differ-by f v w p q =
    record {
      old = v / 2 ^ f.start % 2 ^ f.width;
      new = w / 2 ^ f.start % 2 ^ f.width;
      first = own_bits v f.start f.width _ _ p q;
      second = own_bits w f.start f.width _ _ refl refl;
      above = refl;
      below = refl;
    }
