-- The bits that a record holds are those that the decoder takes out: division with remainder gives one such number and no other.
use Rattle.std.proofs.Common.{◌≡◌, ℕ, ◌+◌, ◌-◌, ◌*◌, ◌/◌, ◌%◌, ◌^◌, ◌≤◌, sym, ap, ◌∙◌, mod-lt, zero-add, arith, pow_pos, shr-shr}
use lib.Pow.{high, low, split, field, mod-mod-pow}
use Rattle.records.specs.Bits.{field_of}
use Rattle.reading.specs.Reading.{HasBits}

-- A value's own bits are the decoder's field.
pub bits_is : {v s w x : ℕ} → HasBits v s w x → x ≡ field_of v s w
unfolding field_of
bits_is {v} {s} {w} {x} o =
    sym
    (ap (λ (k : ℕ). k / 2 ^ s % 2 ^ w) o.whole
    ∙ ap (λ (k : ℕ). k % 2 ^ w) (high (o.above * 2 ^ w + x) s o.small)
    ∙ low o.above w o.fits)

-- The decoder's field is the value's own bits.
pub bits-of : (v s w : ℕ) → HasBits v s w (field_of v s w)
unfolding field_of
bits-of v s w =
    record {
      above = v / 2 ^ s / 2 ^ w;
      below = v % 2 ^ s;
      fits = mod-lt (v / 2 ^ s) (pow_pos w);
      small = mod-lt v (pow_pos s);
      whole = sym (ap (λ (k : ℕ). k * 2 ^ s + v % 2 ^ s) (split (v / 2 ^ s) w) ∙ split v s);
    }

-- A field of a field is a field of the value.
pub part : (a n v s w : ℕ) → s + w ≤ n → field_of (field_of v a n) s w ≡ field_of v (a + s) w
unfolding field_of
part a n v s w h =
    let j : ℕ = (n - s) - w in
    let e : n ≡ (j + w) + s = omega arith in
    ap (λ (k : ℕ). v / 2 ^ a % 2 ^ k / 2 ^ s % 2 ^ w) e
    ∙ ap (λ (x : ℕ). x % 2 ^ w) (field (v / 2 ^ a) (j + w) s)
    ∙ mod-mod-pow (v / 2 ^ a / 2 ^ s) j w
    ∙ ap (λ (x : ℕ). x % 2 ^ w) (shr-shr v a s)

-- A field within the lowest n bits is a field of those bits.
pub inner : (n v s w : ℕ) → s + w ≤ n → field_of (field_of v 0 n) s w ≡ field_of v s w
inner n v s w h = part 0 n v s w h ∙ ap (λ (k : ℕ). field_of v k w) (zero-add s)
