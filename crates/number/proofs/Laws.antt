-- Laws that the functions' proofs cite: what a count says of a digit, and what a definition gives under the tests that the code made. A
-- count is computed for every byte; the rest goes by the cases of the definitions.
use Rattle.std.proofs.Common.{◌≡◌, ℕ, ◌+◌, ◌-◌, ◌*◌, ◌/◌, ◌%◌, ◌^◌, ◌<◌, ◌≤◌, Bool, true, false, cond, not, ◌&&◌, ◌||◌, T, eqb, ltb, leb, ◌⊎◌, List, [], ◌∷◌, length, get_or, drop, sym, refl, ap, ◌∙◌, subst, inl, inr, not-suc-le-zero, div-lt_iff_lt-mul, add-mul, le-div_iff_mul-le, zero-add, add-one, arith, eqb→eq, leb→le, drop_of_length-le, drop-cons, ltb-false, ltb-true, le-ltb, lt-ltb, eq-eqb, ne_eqb, eqb-true, le-leb, leb-false}
use mathlib.Core.Bool.{false≢true, and-true, and-false}
use Rattle.std.specs.List.{list_all}
use lib.Bits.{bit_and}
use borrow.Author.Tests.{lt-leb}
use Rattle.number.specs.Digits.{base_of, digit_of, no_digit}
use Rattle.number.specs.Numbers.{in_digits, refused, grown, read_digit, read_digits, starts_with, is_hex, unsigned, number_from, number_in, number_of}
use Rattle.number.specs.Rest.{is_stop, before_stop, are_stops}
use Rattle.number.specs.Steps.{advance_of, is_digits, character_of, stop_of, step_of, DigitsTo}
use Rattle.number.specs.declared.Lead.{Lead}
use Rattle.number.specs.declared.NumberState.{NumberState}
use Rattle.promise.proofs.Tests.{from, from_at}
use Rattle.refusals.specs.declared.Reason.TheVariants.{InvalidDigit, None, PosOverflow}

-- what holds of both outcomes of a test holds of the one picked
pub either : {A : Type 0} (P : A → Type 0) (t : Bool) {a b : A} → P a → P b → P (cond t a b)
either P true p q = p
either P false p q = q

-- and so where each outcome is known to be the test's
pub by-test : (P : Bool → Type 0) (t : Bool) → (t ≡ true → P true) → (t ≡ false → P false) → P t
by-test P true p q = p refl
by-test P false p q = q refl

pub un_not : (t : Bool) {u : Bool} → not t ≡ u → t ≡ not u
un_not true e = ap not e
un_not false e = ap not e

-- Digits: a character is counted from "0", and in base 16 past "9" from "A" without bit 5.

-- a count that is below the base is what the character is worth; any other count says that it is no digit
abbrev pub CountsAs : ℕ → ℕ → ℕ → Type 0
CountsAs base b w = (w < base → w ≡ digit_of b) × (base ≤ w → base ≤ digit_of b)

abbrev counts : ℕ → ℕ → ℕ → Bool
counts base b w = cond (ltb w base) (eqb w (digit_of b)) (leb base (digit_of b))

counted : (base b w : ℕ) → T (counts base b w) → CountsAs base b w
counted base b w t = by-test (ltb w base) refl t
  where
    by-test : (s : Bool) → ltb w base ≡ s → T (cond s (eqb w (digit_of b)) (leb base (digit_of b))) → CountsAs base b w
    by-test true e u = let d = eqb→eq w (digit_of b) u in let l = ltb-true w base e in omega arith
    by-test false e u = let d = leb→le base (digit_of b) u in let l = ltb-false w base e in omega arith

abbrev pub but_case : ℕ
but_case = 2 ^ 64 - 1 - 2 ^ 5

abbrev from_zero : ℕ → ℕ → Bool
from_zero base b = counts base b ((b + (2 ^ 64 - 48)) % 2 ^ 64)

abbrev from-a : ℕ → Bool
from-a b = counts 16 b (10 + bit_and ((b + (2 ^ 64 - 65)) % 2 ^ 64) but_case)

decimals : T (from (from_zero 10) 0 256)
unfolding digit_of
decimals = tt

figures : T (from (from_zero 16) 0 58)
unfolding digit_of
figures = tt

letters : T (from from-a 58 198)
unfolding digit_of
letters = tt

module _ (b : ℕ) where
  digit-from-zero : (base n : ℕ) → T (from (from_zero base) 0 n) → b < n → CountsAs base b ((b + (2 ^ 64 - 48)) % 2 ^ 64)
  digit-from-zero base n t h =
      counted base b _ (subst (λ k. T (from_zero base k)) (zero-add b) (from_at (from_zero base) 0 n b t h))

  pub digit_decimal : b < 2 ^ 8 → CountsAs 10 b ((b + (2 ^ 64 - 48)) % 2 ^ 64)
  digit_decimal h = digit-from-zero 10 256 decimals h

  pub digit_figure : b ≤ 57 → CountsAs 16 b ((b + (2 ^ 64 - 48)) % 2 ^ 64)
  digit_figure h = digit-from-zero 16 58 figures (omega arith)

  pub digit_letter : b < 2 ^ 8 → 57 < b → CountsAs 16 b (10 + bit_and ((b + (2 ^ 64 - 65)) % 2 ^ 64) but_case)
  digit_letter h l =
      let at : 58 + (b - 58) ≡ b = omega arith in
      counted 16 b _ (subst (λ k. T (from-a k)) at (from_at from-a 58 198 (b - 58) letters (omega arith)))

module _ (b : ℕ) where
  abbrev Outside : ℕ → ℕ → Type 0
  Outside low high = (b < low) ⊎ (high < b)

  outside : (low high : ℕ) → Outside low high → (leb low b && leb b high) ≡ false
  outside low high (inl h) = simp (lt-leb low b h)
  outside low high (inr h) = simp (lt-leb b high h) (and-false (leb low b))

  pub digit-none : Outside 48 57 → Outside 65 70 → Outside 97 102 → digit_of b ≡ no_digit
  unfolding digit_of
  digit-none d l s = rw (outside 48 57 d, outside 97 102 s, outside 65 70 l)

-- One digit.

-- the test by division says whether the next value fits
pub fits : (v k d m : ℕ) → 0 < k → d ≤ m → v ≤ (m - d) / k → v * k + d ≤ m
fits v k d m hk hd h = let g : v * k ≤ m - d = (le-div_iff_mul-le hk).0 h in omega arith

pub over : (v k d m : ℕ) → 0 < k → d ≤ m → (m - d) / k < v → m < v * k + d
over v k d m hk hd h = let g : m - d < v * k = (div-lt_iff_lt-mul hk).0 h in omega arith

-- below m / k every digit fits
pub roomy : (v k d m : ℕ) → 0 < k → d < k → v < m / k → v * k + d ≤ m
roomy v k d m hk hd h = let g : (v + 1) * k ≤ m = (le-div_iff_mul-le hk).0 (omega arith) in omega (arith, add-mul v 1 k)

pub base_pos : (hex : Bool) {k : ℕ} → k ≡ base_of hex → 0 < k
base_pos true e = omega arith
base_pos false e = omega arith

module _ (st : NumberState) (b d k : ℕ) (hd : CountsAs (base_of st.hex) b d) (hk : k ≡ base_of st.hex) where
  digit : d < k → d ≡ digit_of b
  digit h = hd.0 (omega arith)

  pub read-no_digit : k ≤ d → read_digit st b ≡ in_digits st.hex 0 InvalidDigit
  unfolding read_digit
  read-no_digit h = rw (← hk) (simp (le-leb k (digit_of b) (omega (arith, hd.1 (omega arith)))))

  pub read-over : d < k → 2 ^ 64 - 1 < st.value * k + d → read_digit st b ≡ in_digits st.hex 0 PosOverflow
  unfolding read_digit
  read-over h o = rw (← digit h, ← hk) (simp (lt-leb _ _ h, lt-ltb _ _ o))

  pub read-grown : d < k → st.value * k + d ≤ 2 ^ 64 - 1 → read_digit st b ≡ in_digits st.hex (st.value * k + d) st.reason
  unfolding read_digit
  read-grown h o = rw (← digit h, ← hk) (simp (lt-leb _ _ h, le-ltb _ _ o))

-- a digit that is accepted
pub read_on : (hex : Bool) (v b : ℕ) → digit_of b < base_of hex → v * base_of hex + digit_of b < 2 ^ 64
    → read_digit (in_digits hex v None) b ≡ in_digits hex (v * base_of hex + digit_of b) None
read_on hex v b d f = read-grown (in_digits hex v None) b (digit_of b) (base_of hex) (λ h. refl, λ h. h) refl d (omega arith)

-- what holds of a state by each case of a digit holds after it
module _ (st : NumberState) (b : ℕ) (P : NumberState → Type 0) where
  pub read_by : P (in_digits st.hex 0 InvalidDigit)
      → P (in_digits st.hex 0 PosOverflow)
      → (digit_of b < base_of st.hex → grown st b < 2 ^ 64 → P (in_digits st.hex (grown st b) st.reason))
      → P (read_digit st b)
  unfolding read_digit
  read_by bad over next = by-digit (leb (base_of st.hex) (digit_of b)) refl
    where
      by_value : (t : Bool) → ltb (2 ^ 64 - 1) (grown st b) ≡ t → digit_of b < base_of st.hex
          → P (cond t (in_digits st.hex 0 PosOverflow) (in_digits st.hex (grown st b) st.reason))
      by_value true e d = over
      by_value false e d = next d (omega (arith, ltb-false (2 ^ 64 - 1) (grown st b) e))

      by-digit : (t : Bool) → leb (base_of st.hex) (digit_of b) ≡ t
          → P (cond t (in_digits st.hex 0 InvalidDigit)
          (cond (ltb (2 ^ 64 - 1) (grown st b)) (in_digits st.hex 0 PosOverflow) (in_digits st.hex (grown st b) st.reason)))
      by-digit true e = bad
      by-digit false e = by_value (ltb (2 ^ 64 - 1) (grown st b)) refl (leb-false (base_of st.hex) (digit_of b) e)

-- a character, where none is refused yet
pub read_more : (st : NumberState) (b : ℕ) (s : List ℕ) → refused st.reason ≡ false → read_digits st (b ∷ s) ≡ read_digits (read_digit st b) s
unfolding read_digits
read_more st b s free = simp free

-- the first offender answers: what stands after it changes nothing
pub read-refused : (st : NumberState) (s : List ℕ) → refused st.reason ≡ true → read_digits st s ≡ st
unfolding read_digits
read-refused st [] h = refl
read-refused st (b ∷ s) h = simp h

-- Stops. Each comes before every digit, and before what may stand in front of the digits.

-- where it is none of the first three the fourth decides
pub stop-last : (b : ℕ) → (b ≡ 32 → ⊥) → (b ≡ 9 → ⊥) → (b ≡ 13 → ⊥) → is_stop b ≡ eqb b 10
unfolding is_stop
stop-last b h i j = simp (ne_eqb b 32 h, ne_eqb b 9 i, ne_eqb b 13 j)

pub stop-low : (b : ℕ) → is_stop b ≡ true → b ≤ 32
unfolding is_stop
stop-low b e = by_byte (eqb b 32) (eqb b 9) (eqb b 13) (eqb b 10) refl refl refl refl e
  where
    by_byte : (t u v w : Bool) → eqb b 32 ≡ t → eqb b 9 ≡ u → eqb b 13 ≡ v → eqb b 10 ≡ w → (t || u || v || w) ≡ true → b ≤ 32
    by_byte true u v w h i j k l = omega (arith, eqb-true b 32 h)
    by_byte false true v w h i j k l = omega (arith, eqb-true b 9 i)
    by_byte false false true w h i j k l = omega (arith, eqb-true b 13 j)
    by_byte false false false true h i j k l = omega (arith, eqb-true b 10 k)
    by_byte false false false false h i j k l = absurd (false≢true l)

base_most : (hex : Bool) → base_of hex ≤ no_digit
base_most true = omega arith
base_most false = omega arith

-- so a stop is refused as a digit
pub stop-refused : (st : NumberState) (b : ℕ) → is_stop b ≡ true → refused (read_digit st b).reason ≡ true
stop-refused st b e =
    let low : b ≤ 32 = stop-low b e in
    let none : digit_of b ≡ no_digit = digit-none b (inl (omega arith)) (inl (omega arith)) (inl (omega arith)) in
    read_by st b (λ (r : NumberState). refused r.reason ≡ true) refl refl (λ d f. absurd (omega (arith, base_most st.hex)))

-- stops alone stand where each byte is one
pub stops_all : (s : List ℕ) → list_all is_stop s ≡ are_stops s
unfolding are_stops
stops_all [] = refl
stops_all (b ∷ s) = ap (λ (t : Bool). is_stop b && t) (stops_all s)

-- what is left from an offset on: its end, a stop, or one byte more
module _ (s : List ℕ) (i : ℕ) where
  pub before-end : length s ≤ i → before_stop (drop i s) ≡ []
  unfolding before_stop
  before-end h = rw (drop_of_length-le s h)

  module _ (h : i < length s) where
    pub before-stop : is_stop (get_or s i 0) ≡ true → before_stop (drop i s) ≡ []
    unfolding before_stop
    before-stop e = rw (drop-cons s i 0) (simp e)

    pub before_more : is_stop (get_or s i 0) ≡ false → before_stop (drop i s) ≡ get_or s i 0 ∷ before_stop (drop (i + 1) s)
    unfolding before_stop
    before_more e = rw (add-one, drop-cons s i 0) (simp e)

-- The loop over the digits. At each turn the state so far, on what is left, leads to the whole answer.
abbrev pub DigitsFrom : Lead → List ℕ → NumberState → ℕ → Type 0
DigitsFrom l s st i =
    (refused st.reason ≡ false)
    × (read_digits l.state (before_stop (drop l.at s)) ≡ read_digits st (before_stop (drop i s)))
    × (l.at + length (before_stop (drop l.at s)) ≡ i + length (before_stop (drop i s)))

module _ (l : Lead) (s : List ℕ) (st : NumberState) (i : ℕ) (inv : DigitsFrom l s st i) where
  -- at a stop and at the end nothing is left
  pub digits-ended : before_stop (drop i s) ≡ [] → DigitsTo l (drop l.at s) (record { state = st; at = i })
  unfolding read_digits
  digits-ended e = (sym (inv.1 ∙ ap (read_digits st) e), λ h. omega (arith, inv.2, ap length e))

  module _ (h : i < length s) {next : NumberState} (d : next ≡ read_digit st (get_or s i 0)) where
    more : is_stop (get_or s i 0) ≡ false → read_digits st (before_stop (drop i s)) ≡ read_digits next (before_stop (drop (i + 1) s))
    more e =
        ap (read_digits st) (before_more s i h e)
        ∙ read_more st (get_or s i 0) (before_stop (drop (i + 1) s)) inv.0
        ∙ ap (λ (r : NumberState). read_digits r (before_stop (drop (i + 1) s))) (sym d)

    pub digits-refused : is_stop (get_or s i 0) ≡ false → refused next.reason ≡ true → DigitsTo l (drop l.at s) (record { state = next; at = i })
    digits-refused e f = (sym (inv.1 ∙ more e ∙ read-refused next _ f), λ g. absurd (false≢true (sym g ∙ f)))

    -- a character that is not refused is no stop
    pub digits_more : refused next.reason ≡ false → DigitsFrom l s next (i + 1)
    digits_more f =
        let none : is_stop (get_or s i 0) ≡ false = by-test (λ (t : Bool). is_stop (get_or s i 0) ≡ t → t ≡ false) (is_stop (get_or s i 0))
        (λ e g. absurd (false≢true (sym f ∙ ap (λ (r : NumberState). refused r.reason) d ∙ stop-refused st (get_or s i 0) g)))
        (λ e g. refl) refl in
        (f, inv.1 ∙ more none, omega (arith, inv.2, ap length (before_more s i h none)))

-- One byte: a stop, or a character by the stage that it leads to.

-- the state after a byte that is no stop
unfoldable pub next_of : NumberState → ℕ → NumberState
next_of st b = cond (refused st.reason) st (character_of st b)

module _ (st : NumberState) (b : ℕ) where
  pub step-refused : refused st.reason ≡ true → step_of st b ≡ st
  unfolding step_of
  step-refused h = simp h

  pub step-stop : refused st.reason ≡ false → is_stop b ≡ true → step_of st b ≡ stop_of st
  unfolding step_of
  step-stop free h = simp (free, h)

  pub step-next : is_stop b ≡ false → step_of st b ≡ next_of st b
  unfolding step_of next_of
  step-next h = simp h

  pub next-refused : refused st.reason ≡ true → next_of st b ≡ st
  unfolding next_of
  next-refused h = simp h

  module _ (free : refused st.reason ≡ false) {a : NumberState} (e : a ≡ advance_of st b) where
    pub next-digit : is_digits a.stage ≡ true → next_of st b ≡ read_digit a b
    unfolding next_of
    next-digit d = rw e (simp (free, rw e at d))

    pub next_lead : is_digits a.stage ≡ false → next_of st b ≡ a
    unfolding next_of
    next_lead d = rw e (simp (free, rw e at d))

-- The whole input.

starts-one : (p : ℕ) (s : List ℕ) → 1 ≤ length s → starts_with (p ∷ []) s ≡ eqb (get_or s 0 0) p
unfolding starts_with
starts-one p [] h = absurd (not-suc-le-zero h)
starts-one p (a ∷ s) h = and-true (eqb a p)

module _ (s : List ℕ) where
  pub unsigned-bare : 1 ≤ length s → (get_or s 0 0 ≡ 43 → ⊥) → unsigned s ≡ s
  unsigned-bare some h = simp (starts-one 43 s some, ne_eqb _ _ h)

  pub unsigned_plus : 2 ≤ length s → get_or s 0 0 ≡ 43 → unsigned s ≡ drop 1 s
  unsigned_plus two h = simp (starts-one 43 s (omega arith), eq-eqb _ _ h, lt-ltb 1 (length s) two)

  pub number-some : (hex : Bool) → 1 ≤ length s → number_in hex s ≡ number_from (read_digits (in_digits hex 0 None) (unsigned s))
  unfolding number_in
  number-some hex some = simp (ne_eqb (length s) 0 (omega arith))

  pub number-plain : is_hex s ≡ false → number_of s ≡ number_in false s
  unfolding number_of
  number-plain h = simp h
