-- Digits from groups of bits and digits by division are the definition's, in any base; the fewest digits that hold a number are found by taking
-- the lowest away until nothing is left.
use mathlib.Core.Path.{◌≡◌, refl, sym, ap, ap₂, subst, ◌∙◌}
use mathlib.Core.Bool.{Bool, true, false, cond}
use mathlib.Core.List.{List, [], ◌∷◌, ◌++◌}
use Prim.Native.Nat.{ℕ, zero, suc, ◌+◌, ◌-◌, ◌*◌, ◌/◌, ◌%◌, ◌^◌, ◌≤◌, ◌<◌}
use native.Mathlib.Nat.{div-div-eq-div-mul, pow-suc, zero-add, zero-div, zero-mod, div-eq_of_lt, div-lt_iff_lt-mul, one-mul, mul_comm, mul_assoc, add-mul, div-add-mod, mul-add-mod_self_left, mul-suc, mul-zero, mul-le-mul_left, pow-zero, suc-add, not-suc-le-zero, one-le-pow, pow-le-pow_left, pow-le-pow_right, le-div_iff_mul-le}
use native.Mathlib.Omega.{arith}
use borrow.Author.Tests.{lt-ltb, le-ltb, ltb-true, ltb-false}
use lib.Dec.{ltb}
use lib.ListN.{length, replicate, set, take, length-set}
use lib.Pow.{pow-add, pow_mono, field, shl-shr, shr-shr, shr_lt}
use lib.Seq.{sets, set_out, take-nil}
use Rattle.texts.specs.Pool.{bytes}
use Rattle.digits.specs.Digits.{digit_char, digits_of, enough, unpadded, radix_of}
use Rattle.digits.specs.declared.Base.{Base}
use Rattle.digits.specs.declared.Base.TheVariants.{Binary, Decimal, Hex}
use Rattle.buffer.proofs.Appending.{offset-is}
use Rattle.buffer.specs.Appending.{offset, room, appended, Appends}

pub length_digits : (base n v : ℕ) → length (digits_of base n v) ≡ n
unfolding digits_of
length_digits base zero v = refl
length_digits base (suc n) v = ap suc (length_digits base n v)

-- one digit more: at its place, before those below it; and what stands above it
module _ (base k v : ℕ) where
  pub digit-before : (l : List ℕ) (i : ℕ)
      → sets (set l i (digit_char (v / base ^ k % base))) (suc i) (digits_of base k v) ≡ sets l i (digits_of base (suc k) v)
  unfolding digits_of
  digit-before l i = refl

  pub rest-above : v / base ^ k / base ≡ v / base ^ suc k
  rest-above = rw (pow-suc, div-div-eq-div-mul)

-- Highest first, from bits.

pub pow-pow : (k m : ℕ) → (2 ^ k) ^ m ≡ 2 ^ (k * m)
pow-pow k zero = rw (mul-zero, pow-zero, pow-zero)
pow-pow k (suc m) = rw (pow-suc, mul-suc, pow-add, pow-pow k m)

mod-mul : (a b n : ℕ) → a % n * b % n ≡ a * b % n
mod-mul a b n = sym (mul-add-mod_self_left n (a / n * b) (a % n * b)) ∙ ap (λ (x : ℕ). x % n) (rw (← mul_assoc, ← add-mul) (ap (λ (x : ℕ). x * b) (div-add-mod a n)))

-- where m + 1 digits of `size` bits are left, the next stands on top of a word of 64 bits
module _ (size n v m : ℕ) (most : size * n ≤ 64) (in-n : m < n) where
  few : size * m + size ≤ 64
  few = omega (arith, mul-suc size m, mul-le-mul_left size in-n)

  pub top_digit : v * 2 ^ (64 - size * suc m) % 2 ^ 64 / 2 ^ (64 - size) ≡ v / (2 ^ size) ^ m % 2 ^ size
  top_digit =
      let up : ℕ = 64 - size * suc m in
      let all : 64 ≡ size + (up + size * m) = omega (arith, mul-suc size m, few) in
      let rest : 64 - size ≡ up + size * m = omega (arith, mul-suc size m, few) in
      ap₂ (λ (w d : ℕ). v * 2 ^ up % 2 ^ w / 2 ^ d) all rest ∙ rw (field (v * 2 ^ up) size (up + size * m), ← shr-shr, shl-shr, pow-pow)

  pub top-next : v * 2 ^ (64 - size * suc m) % 2 ^ 64 * 2 ^ size % 2 ^ 64 ≡ v * 2 ^ (64 - size * m) % 2 ^ 64
  top-next =
      let e : 64 - size * m ≡ 64 - size * suc m + size = omega (arith, mul-suc size m, few) in
      mod-mul (v * 2 ^ (64 - size * suc m)) (2 ^ size) (2 ^ 64) ∙ rw (e, pow-add, mul_assoc)

-- a digit of at most four bits, on top of a word
pub top_small : (size top : ℕ) → size ≤ 4 → top < 2 ^ 64 → top / 2 ^ (64 - size) < 16
top_small size top h fits =
    let e : 64 ≡ size + (64 - size) = omega arith in
    omega (arith, pow_mono h, shr_lt size (64 - size) (subst (λ (k : ℕ). top < 2 ^ k) e fits))

-- stores past the end change nothing
stores_past : (l : List ℕ) (at k : ℕ) (t : List ℕ) → length l ≤ at + k → sets l at (take k t) ≡ sets l at t
stores_past l at k [] h = rw take-nil
stores_past l at zero (x ∷ t) h = let out : length l ≤ at = omega arith in rw set_out (stores_past l (suc at) zero t (omega arith))
stores_past l at (suc k) (x ∷ t) h = stores_past (set l at x) (suc at) k t (omega (arith, length-set l at x))

-- the loop ends where no digit is left, or no place
pub none_to_put : (base v left : ℕ) (l : List ℕ) (i : ℕ) → (0 < left → length l ≤ i) → sets l i (digits_of base left v) ≡ l
unfolding digits_of
none_to_put base v zero l i h = refl
none_to_put base v (suc m) l i h = sym (stores_past l i 0 (digits_of base (suc m) v) (omega (arith, h (omega arith))))

-- digits that were stored from an offset on, as far as the buffer goes
pub digits_put : (base n v : ℕ) {l : List ℕ} {at next : ℕ} {after : List ℕ} → length l < 2 ^ 64 → next ≡ offset (at + n) → sets l at (digits_of base n v) ≡ after
    → Appends (digits_of base n v) (at, l) (next, after)
unfolding appended
digits_put base n v {l} {at} small e w =
    record {
      is =
          ap₂ (λ (m : ℕ) (k : List ℕ). (m, k)) (rw length_digits e)
          (sym w ∙ sym (stores_past l at (room l at) (digits_of base n v) (omega (arith, offset-is (length l) small))));
    }

-- digits above those that hold the number are 0: so many of a run of zeros
pub zeros-above : (base m v : ℕ) → v < base ^ m → (k run : ℕ) → k ≤ run → digits_of base (k + m) v ≡ take k (replicate run 48) ++ digits_of base m v
unfolding digits_of digit_char bytes
zeros-above base m v h zero run in-run = rw zero-add
zeros-above base m v h (suc k) zero in-run = absurd (not-suc-le-zero in-run)
zeros-above base m v h (suc k) (suc run) in-run =
    rw (suc-add, pow-add, mul_comm (base ^ k) (base ^ m), ← div-div-eq-div-mul, div-eq_of_lt h, zero-div, zero-mod, zeros-above base m v h k run (omega arith))

-- The fewest digits that hold a number, in any base from 2 on.

pub two_at_least : (base : Base) → 2 ≤ radix_of base
two_at_least Binary = omega arith
two_at_least Decimal = omega arith
two_at_least Hex = omega arith

module _ (b : ℕ) (two : 2 ≤ b) where
  positive : (n : ℕ) → 0 < b ^ n
  positive n = one-le-pow n b (omega arith)

  -- something is left of a number that n digits do not hold, and nothing of one that they hold
  left_over : (v n : ℕ) → 0 < v / b ^ n → b ^ n ≤ v
  left_over v n some = rw one-mul at ((le-div_iff_mul-le (positive n)).0 some)

  none_left : (v n : ℕ) → v / b ^ n ≤ 0 → v < b ^ n
  none_left v n none = let h : v / b ^ n < 1 = omega arith in rw one-mul at ((div-lt_iff_lt-mul (positive n)).0 h)

  -- a turn of the loop that takes the lowest digit away; 64 digits hold every value
  module _ (v n : ℕ) (some : 0 < v / b ^ n) where
    pub one_digit_more : (tries : ℕ) → enough b v n (suc tries) ≡ enough b v (suc n) tries
    unfolding enough
    one_digit_more tries = rw (le-ltb v (b ^ n) (left_over v n some))

    pub few-digits : v < 2 ^ 64 → n < 64
    few-digits small =
        let some-base : 0 < b = omega arith in
        let no : 64 ≤ n → ⊥ = λ h. omega (arith, left_over v n some, pow-le-pow_left two 64, pow-le-pow_right some-base h) in
        omega arith

  pub enough_now : (v n tries : ℕ) → v / b ^ n ≤ 0 → enough b v n tries ≡ n
  unfolding enough
  enough_now v n zero h = refl
  enough_now v n (suc tries) h = rw (lt-ltb v (b ^ n) (none_left v n h))

-- what holds of the count that `enough` ends with: where the tries end, where the number is held, and where it is not and the count goes on
module _ (b v : ℕ) (P : ℕ → ℕ → ℕ → Type 0) (last : (n : ℕ) → P n 0 n) (held : (n tries : ℕ) → v < b ^ n → P n (suc tries) n) (on : (n tries r : ℕ) → b ^ n ≤ v → P (suc n) tries r → P n (suc tries) r) where
  pub enough-by : (n tries : ℕ) → P n tries (enough b v n tries)
  unfolding enough
  enough-by n zero = last n
  enough-by n (suc tries) = by-test (ltb v (b ^ n)) refl (enough-by (suc n) tries)
    where
      by-test : (s : Bool) → ltb v (b ^ n) ≡ s → P (suc n) tries (enough b v (suc n) tries) → P n (suc tries) (cond s n (enough b v (suc n) tries))
      by-test true e rest = held n tries (ltb-true v (b ^ n) e)
      by-test false e rest = on n tries (enough b v (suc n) tries) (ltb-false v (b ^ n) e) rest

-- a numeral has at most 64 digits
pub unpadded-few : (base v : ℕ) → unpadded base v ≤ 64
unfolding unpadded
unpadded-few base v =
    enough-by base v (λ n tries r. r ≤ n + tries) (λ n. omega arith) (λ n tries h. omega arith) (λ n tries r h rest. omega arith) 1 63
