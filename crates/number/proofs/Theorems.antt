-- What the promises come to: a number is accepted just where the text stands for one by the positions of its digits; zeros and a sign in
-- front change nothing; what is read does not depend on where the text is cut. Each is an induction over the characters.
use Prim.Native.Char.{code}
use Rattle.std.proofs.Common.{◌≡◌, ℕ, zero, suc, ◌+◌, ◌*◌, ◌^◌, ◌<◌, ◌≤◌, Bool, true, false, cond, T, eqb, ltb, ◌⊎◌, List, [], ◌∷◌, ◌++◌, length, replicate, sym, refl, ap, ◌∙◌, inl, inr, mul_assoc, add-mul, le-mul_of_pos_right, arith, ltb→lt, lt→ltb, length-append, lt-ltb, ne_eqb}
use mathlib.Core.Bool.{false≢true}
use native.Mathlib.Nat.{pow-zero, pow-succ', one-le-pow}
use borrow.Author.Tests.{eqb-false}
use Rattle.number.proofs.Laws.{base_pos, either, by-test, digit-none, read_by, read_on, read-refused, unsigned-bare, unsigned_plus, number-some, number-plain}
use Rattle.number.proofs.Steps.{read_stage}
use Rattle.number.proofs.Stops.{steps_refused}
use Rattle.promise.proofs.Tests.{both_left, both_right, both_intro}
use Rattle.number.specs.Digits.{base_of, digit_of, no_digit}
use Rattle.number.specs.Numbers.{in_digits, refused, read_digit, read_digits, starts_with, is_hex, unprefixed, unsigned, digits_in, number_from, number_in, number_of}
use Rattle.number.specs.Rest.{is_stop}
use Rattle.number.specs.Positional.{are_digits, positional_value, StandsFor, prefix_of}
use Rattle.number.specs.Steps.{start, stage_after, advance_of, is_digits, character_of, end_reason, is_remark, stop_of, step_of, handed_on, steps_of, has_character}
use Rattle.number.specs.declared.Number.{Number}
use Rattle.number.specs.declared.NumberState.{NumberState}
use Rattle.number.specs.declared.Stage.{Stage}
use Rattle.number.specs.declared.Stage.TheVariants.{Begin, Zero, Prefix, Sign, Digits, Stopped, Remark}
use Rattle.refusals.specs.Refusals.{bare, no_refusal}
use Rattle.refusals.specs.declared.Reason.TheVariants.{Empty, InvalidDigit, None, PosOverflow}
use Rattle.refusals.specs.declared.Refusal.{Refusal}

-- bytes above 0x7F are not digits, in either base
pub no_digit-above : (b : ℕ) → 0x7F < b → digit_of b ≡ no_digit
no_digit-above b h = digit-none b (inr (omega arith)) (inr (omega arith)) (inr (omega arith))

-- Steps.

-- characters in two parts are read one part after the other
pub steps_append : (st : NumberState) (s t : List ℕ) → steps_of st (s ++ t) ≡ steps_of (steps_of st s) t
unfolding handed_on
steps_append st [] t = refl
steps_append st (b ∷ s) t = steps_append (step_of st b) s t

-- the first offender answers, whatever stands after it
pub first_offender : (st : NumberState) (s t : List ℕ) → refused (steps_of st s).reason ≡ true → steps_of st (s ++ t) ≡ steps_of st s
first_offender st s t h = steps_append st s t ∙ steps_refused (steps_of st s) t h

abbrev Open : Stage → Type 0
Open q = has_character q ≡ true

abbrev IsOpen : NumberState → Type 0
IsOpen st = Open st.stage

opens : (q : Stage) (b : ℕ) → Open (stage_after q b)
unfolding stage_after
opens Begin b = either Open (eqb b (code "+")) refl (either Open (eqb b (code "0")) refl refl)
opens Zero b = either Open (eqb b (code "x")) refl refl
opens Prefix b = either Open (eqb b (code "+")) refl refl
opens Sign b = refl
opens Digits b = refl
opens Stopped b = refl
opens Remark b = refl

remark_open : (q : Stage) → is_remark q ≡ true → Open q
remark_open Begin e = absurd (false≢true e)
remark_open Zero e = refl
remark_open Prefix e = refl
remark_open Sign e = refl
remark_open Digits e = refl
remark_open Stopped e = refl
remark_open Remark e = refl

module _ (st : NumberState) (b : ℕ) where
  -- any byte opens a state that is not refused
  byte_opens : IsOpen (cond (is_stop b) (stop_of st) (character_of st b))
  byte_opens =
      either IsOpen (is_stop b)
      (by-test (λ (t : Bool). is_remark st.stage ≡ t → IsOpen (cond t st (record { value = st.value; reason = end_reason st.stage st.reason; hex = st.hex; stage = Stopped }))) (is_remark st.stage) (λ e f. remark_open st.stage f) (λ e f. refl) refl)
      (either IsOpen (is_digits (stage_after st.stage b)) (ap has_character (read_stage (advance_of st b) b)) (opens st.stage b))

  step_open : IsOpen st → IsOpen (step_of st b)
  unfolding step_of
  step_open h = either IsOpen (refused st.reason) h byte_opens

steps_open : (st : NumberState) (s : List ℕ) → IsOpen st → IsOpen (steps_of st s)
unfolding handed_on
steps_open st [] h = h
steps_open st (b ∷ s) h = steps_open (step_of st b) s (step_open st b h)

-- a state is open just where there was a byte
pub open_text : (s : List ℕ) → has_character (steps_of start s).stage ≡ ltb 0 (length s)
unfolding handed_on step_of
open_text [] = refl
open_text (b ∷ s) = steps_open (step_of start b) s (byte_opens start b) ∙ sym (lt-ltb 0 (length (b ∷ s)) (omega arith))

-- Digits.

never-accepted : (st : NumberState) (s : List ℕ) → refused st.reason ≡ true → (read_digits st s).reason ≡ None → ⊥
never-accepted st s h e = false≢true (sym (ap refused e) ∙ ap (λ (r : NumberState). refused r.reason) (read-refused st s h) ∙ h)

-- a value has 64 bits; nothing is refused, or a refusal has a number and the value is 0
abbrev Kept : Number → Type 0
Kept n = (n.value < 2 ^ 64) × ((n.refusal ≡ no_refusal) ⊎ ((refused n.refusal.reason ≡ true) × (n.value ≡ 0)))

digits-kept : (hex : Bool) (v : ℕ) (s : List ℕ) → v < 2 ^ 64 → Kept (number_from (read_digits (in_digits hex v None) s))
unfolding read_digits
digits-kept hex v [] h = (h, inl refl)
digits-kept hex v (b ∷ s) h =
    read_by (in_digits hex v None) b (λ (st : NumberState). Kept (number_from (read_digits st s)))
    (rw (read-refused (in_digits hex 0 InvalidDigit) s refl) (omega arith, inr (refl, refl)))
    (rw (read-refused (in_digits hex 0 PosOverflow) s refl) (omega arith, inr (refl, refl)))
    (λ d f. digits-kept hex (v * base_of hex + digit_of b) s f)

number-kept : (hex : Bool) (s : List ℕ) → Kept (number_in hex s)
unfolding number_in
number-kept hex s = either Kept (eqb (length s) 0) (omega arith, inr (refl, refl)) (digits-kept hex 0 (unsigned s) (omega arith))

-- a result is below 2^64, refused or not
pub below : (s : List ℕ) → (number_of s).value < 2 ^ 64
unfolding number_of
below s = (number-kept (is_hex s) (unprefixed s)).0

-- a text is accepted, or it is refused with a number and has the value 0
pub refused-zero : (s : List ℕ) → ((number_of s).refusal ≡ no_refusal) ⊎ ((refused (number_of s).refusal.reason ≡ true) × ((number_of s).value ≡ 0))
unfolding number_of
refused-zero s = (number-kept (is_hex s) (unprefixed s)).1

-- Positional value.

no_digits : (k v : ℕ) → v ≡ v * k ^ 0 + 0
no_digits k v = rw (pow-zero k) (omega arith)

-- one digit more before n others: the value so far moves up a position
more-digits : (v k d p q : ℕ) → (v * k + d) * p + q ≡ v * (k * p) + (d * p + q)
more-digits v k d p q = rw (add-mul (v * k) d p, mul_assoc v k p) (omega arith)

digit-more : (k v b : ℕ) (s : List ℕ) → (v * k + digit_of b) * k ^ length s + positional_value k s ≡ v * k ^ length (b ∷ s) + positional_value k (b ∷ s)
unfolding positional_value
digit-more k v b s = rw (pow-succ' k (length s)) (more-digits v k (digit_of b) (k ^ length s) (positional_value k s))

-- characters that are accepted are digits alone; the value is theirs by their positions, after the value before them has moved up
abbrev Worth : ℕ → ℕ → List ℕ → NumberState → Type 0
Worth k v s end = T (are_digits k s) × (end.value ≡ v * k ^ length s + positional_value k s)

digits-worth : (hex : Bool) (v : ℕ) (s : List ℕ)
    → (read_digits (in_digits hex v None) s).reason ≡ None
    → Worth (base_of hex) v s (read_digits (in_digits hex v None) s)
unfolding read_digits are_digits positional_value
digits-worth hex v [] e = (tt, no_digits (base_of hex) v)
digits-worth hex v (b ∷ s) e =
    read_by (in_digits hex v None) b
    (λ (st : NumberState). (read_digits st s).reason ≡ None → Worth (base_of hex) v (b ∷ s) (read_digits st s))
    (λ h. absurd (never-accepted (in_digits hex 0 InvalidDigit) s refl h))
    (λ h. absurd (never-accepted (in_digits hex 0 PosOverflow) s refl h))
    (λ d f h. let w = digits-worth hex (v * base_of hex + digit_of b) s h in (
      both_intro (ltb (digit_of b) (base_of hex)) (are_digits (base_of hex) s) (lt→ltb (digit_of b) (base_of hex) d) w.0,
      w.1 ∙ digit-more (base_of hex) v b s,
    ))
    e

-- and digits alone whose value has 64 bits are accepted
digits-accepted : (hex : Bool) (v : ℕ) (s : List ℕ)
    → T (are_digits (base_of hex) s)
    → v * base_of hex ^ length s + positional_value (base_of hex) s < 2 ^ 64
    → read_digits (in_digits hex v None) s ≡ in_digits hex (v * base_of hex ^ length s + positional_value (base_of hex) s) None
unfolding read_digits are_digits positional_value
digits-accepted hex v [] t l = ap (λ (n : ℕ). in_digits hex n None) (no_digits (base_of hex) v)
digits-accepted hex v (b ∷ s) t l =
    let k : ℕ = base_of hex in
    let d : T (ltb (digit_of b) k) = both_left (ltb (digit_of b) k) (are_digits k s) t in
    let e = digit-more k v b s in
    let one : 1 ≤ k ^ length s = one-le-pow (length s) k (base_pos hex refl) in
    let up : v * k + digit_of b ≤ (v * k + digit_of b) * k ^ length s = le-mul_of_pos_right (v * k + digit_of b) one in
    ap (λ (st : NumberState). read_digits st s) (read_on hex v b (ltb→lt (digit_of b) k d) (omega arith))
    ∙ digits-accepted hex (v * k + digit_of b) s (both_right (ltb (digit_of b) k) (are_digits k s) t) (omega arith)
    ∙ ap (λ (n : ℕ). in_digits hex n None) e

-- Acceptance.

-- after its sign a text in a base is accepted just where it stands for its value
module _ (hex : Bool) (s : List ℕ) where
  accepted_in : 1 ≤ length s → (number_in hex s).refusal ≡ no_refusal → Worth (base_of hex) 0 (unsigned s) (read_digits (in_digits hex 0 None) (unsigned s))
  accepted_in some e = digits-worth hex 0 (unsigned s) (ap (λ (f : Refusal). f.reason) (rw (number-some s hex some) at e))

  some_in : (number_in hex s).refusal ≡ no_refusal → 1 ≤ length s
  unfolding number_in
  some_in = by-test (eqb (length s) 0) refl
    where
      by-test : (t : Bool) → eqb (length s) 0 ≡ t
          → (cond t (record { value = 0; refusal = bare Empty }) (number_from (read_digits (in_digits hex 0 None) (unsigned s)))).refusal ≡ no_refusal → 1 ≤ length s
      by-test true h e = absurd (false≢true (sym (ap (λ (f : Refusal). refused f.reason) e)))
      by-test false h e = omega (arith, eqb-false (length s) 0 h)

-- an accepted text stands for its value: the value is the positional value of its digits
pub accepted : (s : List ℕ) → (number_of s).refusal ≡ no_refusal → StandsFor s (number_of s).value
unfolding number_of
accepted s e =
    let hex : Bool = is_hex s in
    let some : 1 ≤ length (unprefixed s) = some_in hex (unprefixed s) e in
    let w = accepted_in hex (unprefixed s) some e in
    record {
      some = some;
      digits = w.0;
      worth = ap (λ (n : Number). n.value) (number-some (unprefixed s) hex some) ∙ w.1 ∙ omega arith;
      small = below s;
    }

-- and a text that stands for a value is accepted with it
pub accepts : (s : List ℕ) (v : ℕ) → StandsFor s v → number_of s ≡ record { value = v; refusal = no_refusal }
unfolding number_of
accepts s v w =
    number-some (unprefixed s) (is_hex s) w.some
    ∙ ap number_from (digits-accepted (is_hex s) 0 (digits_in s) w.digits (omega (arith, w.small, w.worth)))
    ∙ ap (λ (n : ℕ). record { value = n; refusal = no_refusal }) (omega (arith, w.worth))

-- What may stand in front.

-- a text after what selects its base is a number in that base; where nothing selects one it must not begin with "0x" itself
abbrev pub Bare : Bool → List ℕ → Type 0
Bare hex s = hex ≡ false → is_hex s ≡ false

number_in_lem : (hex : Bool) (s : List ℕ) → Bare hex s → number_of (prefix_of hex ++ s) ≡ number_in hex s
unfolding number_of starts_with
number_in_lem true s h = refl
number_in_lem false s h = number-plain s (h refl)

-- a character that is worth nothing is no digit
not_digit : (hex : Bool) (c d : ℕ) → digit_of c ≡ no_digit → digit_of d < base_of hex → d ≡ c → ⊥
not_digit true c d w l e = omega (arith, ap digit_of e)
not_digit false c d w l e = omega (arith, ap digit_of e)

digits-zeros : (hex : Bool) (n : ℕ) (s : List ℕ) → read_digits (in_digits hex 0 None) (replicate n (code "0") ++ s) ≡ read_digits (in_digits hex 0 None) s
unfolding read_digits read_digit digit_of
digits-zeros hex zero s = refl
digits-zeros true (suc n) s = digits-zeros true n s
digits-zeros false (suc n) s = digits-zeros false n s

bare-zeros : (hex : Bool) (n d : ℕ) (s : List ℕ) → digit_of d < base_of hex → Bare hex (d ∷ s) → Bare hex (replicate n (code "0") ++ (d ∷ s))
unfolding starts_with digit_of
bare-zeros hex zero d s l h = h
bare-zeros hex (suc zero) d s l h = λ e. simp (ne_eqb d (code "x") (not_digit hex (code "x") d refl l))
bare-zeros hex (suc (suc n)) d s l h = λ e. refl

unsigned-digit : (hex : Bool) (d : ℕ) (s : List ℕ) → digit_of d < base_of hex → unsigned (d ∷ s) ≡ d ∷ s
unfolding digit_of
unsigned-digit hex d s l = unsigned-bare (d ∷ s) (omega arith) (not_digit hex (code "+") d refl l)

unsigned-zeros : (hex : Bool) (n d : ℕ) (s : List ℕ) → digit_of d < base_of hex
    → unsigned (replicate n (code "0") ++ (d ∷ s)) ≡ replicate n (code "0") ++ (d ∷ s)
unfolding digit_of
unsigned-zeros hex zero d s l = unsigned-digit hex d s l
unsigned-zeros true (suc n) d s l = unsigned-digit true (code "0") (replicate n (code "0") ++ (d ∷ s)) (omega arith)
unsigned-zeros false (suc n) d s l = unsigned-digit false (code "0") (replicate n (code "0") ++ (d ∷ s)) (omega arith)

-- leading zeros change nothing, refused or not: put in front of the first digit of a text, in either base
pub leading_zeros : (hex : Bool) (n d : ℕ) (s : List ℕ) → digit_of d < base_of hex → Bare hex (d ∷ s)
    → number_of (prefix_of hex ++ (replicate n (code "0") ++ (d ∷ s))) ≡ number_of (prefix_of hex ++ (d ∷ s))
leading_zeros hex n d s l h =
    let z : List ℕ = replicate n (code "0") ++ (d ∷ s) in
    number_in_lem hex z (bare-zeros hex n d s l h)
    ∙ number-some z hex (omega (arith, length-append (replicate n (code "0")) (d ∷ s)))
    ∙ ap (λ (t : List ℕ). number_from (read_digits (in_digits hex 0 None) t)) (unsigned-zeros hex n d s l)
    ∙ ap number_from (digits-zeros hex n (d ∷ s))
    ∙ ap (λ (t : List ℕ). number_from (read_digits (in_digits hex 0 None) t)) (sym (unsigned-digit hex d s l))
    ∙ sym (number_in_lem hex (d ∷ s) h ∙ number-some (d ∷ s) hex (omega arith))

-- one "+" changes nothing, refused or not: put in front of a text that has a character, and no "+" there already
pub one_plus : (hex : Bool) (d : ℕ) (s : List ℕ) → (d ≡ code "+" → ⊥) → Bare hex (d ∷ s)
    → number_of (prefix_of hex ++ (code "+" ∷ d ∷ s)) ≡ number_of (prefix_of hex ++ (d ∷ s))
unfolding starts_with
one_plus hex d s other h =
    let p : List ℕ = code "+" ∷ d ∷ s in
    number_in_lem hex p (λ e. refl)
    ∙ number-some p hex (omega arith)
    ∙ ap (λ (t : List ℕ). number_from (read_digits (in_digits hex 0 None) t))
    (unsigned_plus p (omega arith) refl ∙ sym (unsigned-bare (d ∷ s) (omega arith) other))
    ∙ sym (number_in_lem hex (d ∷ s) h ∙ number-some (d ∷ s) hex (omega arith))
