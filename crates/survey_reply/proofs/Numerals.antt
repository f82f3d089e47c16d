-- A number that was written in decimal is read back: the value of its digits by their positions is the number, by induction over how many there are.
use Prim.Native.Char.{code}
use Prim.Native.Nat.{ℕ, zero, suc, ◌/◌, ◌%◌, ◌^◌, ◌≤◌, ◌<◌}
use mathlib.Core.Bool.{Bool, and-false, true, false, not}
use mathlib.Core.List.{List, [], ◌∷◌}
use mathlib.Core.Logic.{inl}
use mathlib.Core.Path.{◌≡◌, refl, sym, ap, subst, ◌∙◌}
use native.Mathlib.Nat.{mod-eq_of_lt, mod-lt, not-suc-le-zero, one-le-pow, pow-succ', pow-zero, zero-add}
use native.Mathlib.Omega.{arith}
use lib.Dec.{T, eqb, eqb→eq, ltb, lt→ltb, ltb→lt}
use lib.Arith.{mod-mul}
use lib.ListN.{length}
use borrow.Author.Tests.{ne_eqb}
use Rattle.digits.proofs.Numerals.{enough-by, length_digits}
use Rattle.digits.proofs.Theorems.{fewest}
use Rattle.digits.specs.Digits.{digit_char, digits_of, numeral, unpadded}
use Rattle.number.proofs.Laws.{digit-none, stop-low, unsigned-bare}
use Rattle.number.proofs.Rest.{no_stop-old}
use Rattle.number.proofs.Theorems.{accepts}
use Rattle.number.specs.Digits.{digit_of}
use Rattle.number.specs.Numbers.{is_hex, number_of, starts_with, unsigned}
use Rattle.number.specs.Positional.{are_digits, positional_value, StandsFor}
use Rattle.number.specs.Rest.{is_stop, no_stop, whole_of}
use Rattle.promise.proofs.Tests.{both_intro, both_left, both_right, from, from_at, is_true}
use Rattle.refusals.specs.Refusals.{no_refusal}
use Rattle.texts.specs.Pool.{bytes}

-- a decimal digit is worth what it was written for
abbrev worth : ℕ → Bool
worth d = eqb (digit_of (digit_char d)) d

each-worth : T (from worth 0 10)
unfolding digit_of digit_char bytes
each-worth = tt

digit-worth : (d : ℕ) → d < 10 → digit_of (digit_char d) ≡ d
digit-worth d h = eqb→eq (digit_of (digit_char d)) d (subst (λ (k : ℕ). T (worth k)) (zero-add d) (from_at worth 0 10 d each-worth h))

module _ (v : ℕ) where
  low : (n : ℕ) → v / 10 ^ n % 10 < 10
  low n = mod-lt (v / 10 ^ n) (omega arith)

  written-digits : (n : ℕ) → T (are_digits 10 (digits_of 10 n v))
  unfolding are_digits digits_of
  written-digits zero = tt
  written-digits (suc n) =
      let e = digit-worth (v / 10 ^ n % 10) (low n) in
      both_intro (ltb (digit_of (digit_char (v / 10 ^ n % 10))) 10) (are_digits 10 (digits_of 10 n v)) (lt→ltb (digit_of (digit_char (v / 10 ^ n % 10))) 10 (omega (arith, e, low n)))
      (written-digits n)

  written-value : (n : ℕ) → positional_value 10 (digits_of 10 n v) ≡ v % 10 ^ n
  unfolding positional_value digits_of
  written-value zero = rw (pow-zero 10) (omega arith)
  written-value (suc n) =
      rw (digit-worth (v / 10 ^ n % 10) (low n), length_digits 10 n v, written-value n, pow-succ' 10 n) (sym (mod-mul v (omega arith) (one-le-pow n 10 (omega arith))))

-- digits alone begin with neither "0x" nor "+"
module _ (b : ℕ) (s : List ℕ) (t : T (are_digits 10 (b ∷ s))) where
  first-digit : digit_of b < 10
  unfolding are_digits
  first-digit = ltb→lt (digit_of b) 10 (both_left (ltb (digit_of b) 10) (are_digits 10 s) t)

  unsigned-digits : unsigned (b ∷ s) ≡ b ∷ s
  unfolding digit_of
  unsigned-digits = unsigned-bare (b ∷ s) (omega arith) (λ e. omega (arith, ap digit_of e, first-digit))

no_prefix : (s : List ℕ) → T (are_digits 10 s) → is_hex s ≡ false
unfolding starts_with are_digits digit_of
no_prefix [] t = refl
no_prefix (b ∷ []) t = and-false (eqb b (code "0"))
no_prefix (b ∷ d ∷ s) t =
    let low = first-digit d s (both_right (ltb (digit_of b) 10) (are_digits 10 (d ∷ s)) t) in
    let no : d ≡ code "x" → ⊥ = λ e. omega (arith, ap digit_of e, low) in
    rw (ne_eqb d (code "x") no) (and-false (eqb b (code "0")))

some-digit : (v : ℕ) → 1 ≤ unpadded 10 v
unfolding unpadded
some-digit v = enough-by 10 v (λ n tries r. 1 ≤ n → 1 ≤ r) (λ n h. h) (λ n tries held h. h) (λ n tries r more rest h. rest (omega arith)) 1 63 (omega arith)

numeral-read : (v : ℕ) → v < 2 ^ 64 → number_of (numeral 10 v) ≡ record { value = v; refusal = no_refusal }
numeral-read v small = accepts (numeral 10 v) v (stands (numeral 10 v) (written-digits v (unpadded 10 v)) some (sym value))
  where
    some : 1 ≤ length (numeral 10 v)
    some = omega (arith, length_digits 10 (unpadded 10 v) v, some-digit v)

    value : positional_value 10 (numeral 10 v) ≡ v
    value = written-value v (unpadded 10 v) ∙ mod-eq_of_lt (fewest 10 v (omega arith) small).0

    stands : (s : List ℕ) → T (are_digits 10 s) → 1 ≤ length s → v ≡ positional_value 10 s → StandsFor s v
    stands [] t h e = absurd (not-suc-le-zero h)
    stands (b ∷ s) t h e =
        record {
          some = rw (no_prefix (b ∷ s) t) h;
          digits = rw (no_prefix (b ∷ s) t, unsigned-digits b s t) t;
          worth = rw (no_prefix (b ∷ s) t, unsigned-digits b s t) e;
          small = small;
        }

-- no digit is a stop, so that the whole of a numeral is read (#107)
digit-goes_on : (b : ℕ) → digit_of b < 10 → is_stop b ≡ false
digit-goes_on b h = by-test (is_stop b) refl
  where
    by-test : (t : Bool) → is_stop b ≡ t → t ≡ false
    by-test true e =
        let low : b ≤ 32 = stop-low b e in
        let none : digit_of b ≡ 16 = digit-none b (inl (omega arith)) (inl (omega arith)) (inl (omega arith)) in
        absurd (omega arith)
    by-test false e = refl

no_stop-digits : (s : List ℕ) → T (are_digits 10 s) → T (no_stop s)
unfolding are_digits no_stop
no_stop-digits [] t = tt
no_stop-digits (b ∷ s) t =
    both_intro (not (is_stop b)) (no_stop s) (is_true (ap not (digit-goes_on b (first-digit b s t))))
    (no_stop-digits s (both_right (ltb (digit_of b) 10) (are_digits 10 s) t))

pub numeral-whole : (v : ℕ) → v < 2 ^ 64 → whole_of (numeral 10 v) ≡ record { value = v; refusal = no_refusal }
numeral-whole v small = (no_stop-old (numeral 10 v) (no_stop-digits (numeral 10 v) (written-digits v (unpadded 10 v)))).0 ∙ numeral-read v small
