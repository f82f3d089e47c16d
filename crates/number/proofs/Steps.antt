-- The state that characters lead to, none of them a stop, has 01's number. By cases on what may stand before the digits; from there on a step is a
-- digit.
use Prim.Native.Char.{code}
use Rattle.std.proofs.Common.{◌≡◌, ℕ, Bool, true, false, eqb, List, [], ◌∷◌, sym, refl, ap, ◌∙◌, arith, eqb-true}
use mathlib.Core.Bool.{false≢true}
use borrow.Author.Tests.{eqb-false}
use Rattle.number.proofs.Laws.{next_of, either, read_by, read-refused, next-refused, next-digit, next_lead, unsigned-bare, unsigned_plus, number-some, number-plain}
use Rattle.number.specs.Digits.{digit_of}
use Rattle.number.specs.Numbers.{in_digits, refused, read_digit, read_digits, starts_with, number_from, number_in, number_of}
use Rattle.number.specs.Steps.{start, stage_after, hex_at, advance_of, is_digits, handed_on, finish_before_of}
use Rattle.number.specs.declared.NumberState.{NumberState}
use Rattle.number.specs.declared.Stage.{Stage}
use Rattle.number.specs.declared.Stage.TheVariants.{Begin, Zero, Prefix, Sign, Digits, Stopped, Remark}
use Rattle.refusals.specs.declared.Reason.TheVariants.{None}

-- characters alone, the state after each handed on to the next
abbrev pub characters_of : NumberState → List ℕ → NumberState
characters_of st s = handed_on next_of st s

-- a step that leaves what is refused, for each byte
pub handed_refused : {step : NumberState → ℕ → NumberState} → ((st : NumberState) (b : ℕ) → refused st.reason ≡ true → step st b ≡ st)
    → (st : NumberState) (s : List ℕ) → refused st.reason ≡ true → handed_on step st s ≡ st
unfolding handed_on
handed_refused stays st [] h = refl
handed_refused {step} stays st (b ∷ s) h = ap (λ (r : NumberState). handed_on step r s) (stays st b h) ∙ handed_refused stays st s h

-- Among the digits.

-- the next character, if there is one, leads to the digits
abbrev pub Settled : Stage → List ℕ → Type 0
Settled q [] = Unit {0}
Settled q (b ∷ s) = is_digits (stage_after q b) ≡ true

settled : {q : Stage} (s : List ℕ) → q ≡ Digits → Settled q s
unfolding stage_after
settled [] e = tt
settled (b ∷ s) e = ap (λ (q : Stage). is_digits (stage_after q b)) e

pub read_stage : (st : NumberState) (b : ℕ) → (read_digit st b).stage ≡ Digits
read_stage st b = read_by st b (λ (r : NumberState). r.stage ≡ Digits) refl refl (λ d f. refl)

reads_stage : (st : NumberState) (s : List ℕ) → st.stage ≡ Digits → (read_digits st s).stage ≡ Digits
unfolding read_digits
reads_stage st [] e = e
reads_stage st (b ∷ s) e =
    either (λ (r : NumberState). r.stage ≡ Digits) (refused st.reason) e (reads_stage (read_digit st b) s (read_stage st b))

-- what leads to the digits leaves the base
same_base : (q : Stage) (hex : Bool) → is_digits q ≡ true → hex_at q hex ≡ hex
same_base Begin hex e = refl
same_base Zero hex e = refl
same_base Prefix hex e = absurd (false≢true e)
same_base Sign hex e = refl
same_base Digits hex e = refl
same_base Stopped hex e = refl
same_base Remark hex e = refl

same-digit : (st : NumberState) (b : ℕ) → is_digits (stage_after st.stage b) ≡ true → read_digit (advance_of st b) b ≡ read_digit st b
unfolding read_digit
same-digit st b d = rw (same_base (stage_after st.stage b) st.hex d)

-- from there on the steps are digits
pub settled_steps : (st : NumberState) (s : List ℕ) → refused st.reason ≡ false → Settled st.stage s → characters_of st s ≡ read_digits st s
unfolding handed_on read_digits
settled_steps st [] free d = refl
settled_steps st (b ∷ s) free d =
    ap (λ (r : NumberState). characters_of r s) (next-digit st b free refl d ∙ same-digit st b d)
    ∙ by-refusal (refused (read_digit st b).reason) refl (λ e. settled_steps (read_digit st b) s e (settled s (read_stage st b)))
    ∙ sym (simp free)
  where
    by-refusal : (t : Bool) → refused (read_digit st b).reason ≡ t
        → (refused (read_digit st b).reason ≡ false → characters_of (read_digit st b) s ≡ read_digits (read_digit st b) s)
        → characters_of (read_digit st b) s ≡ read_digits (read_digit st b) s
    by-refusal true e next = handed_refused next-refused (read_digit st b) s e ∙ sym (read-refused (read_digit st b) s e)
    by-refusal false e next = next e

-- From the first character on.

-- the state at a stage before the digits
abbrev at : Stage → Bool → NumberState
at q hex = record { value = 0; reason = None; hex = hex; stage = q }

-- a character that stands before the digits
leads : (q p : Stage) (hex : Bool) (b : ℕ) (s : List ℕ) → stage_after q b ≡ p → is_digits p ≡ false
    → finish_before_of (characters_of (at q hex) (b ∷ s)) ≡ finish_before_of (characters_of (at p (hex_at p hex)) s)
unfolding handed_on
leads q p hex b s e n =
    ap (λ (r : NumberState). finish_before_of (characters_of r s))
    (next_lead (at q hex) b refl {a = at p (hex_at p hex)} (ap (λ (z : Stage). at z (hex_at z hex)) (sym e)) n)

-- the first digit
digits : (q : Stage) (hex : Bool) (b : ℕ) (s : List ℕ) → stage_after q b ≡ Digits
    → finish_before_of (characters_of (at q hex) (b ∷ s)) ≡ number_from (read_digits (in_digits hex 0 None) (b ∷ s))
unfolding read_digits read_digit
digits q hex b s e =
    let st : NumberState = read_digit (at q hex) b in
    ap finish_before_of (settled_steps (at q hex) (b ∷ s) refl (ap is_digits e)) ∙ ended (read_digits st s) (reads_stage st s (read_stage (at q hex) b))
  where
    ended : (st : NumberState) → st.stage ≡ Digits → finish_before_of st ≡ number_from st
    ended st d = rw d

bare-number : (hex : Bool) (b : ℕ) (s : List ℕ) → (b ≡ code "+" → ⊥) → number_from (read_digits (in_digits hex 0 None) (b ∷ s)) ≡ number_in hex (b ∷ s)
bare-number hex b s n =
    sym (number-some (b ∷ s) hex (omega arith)
    ∙ ap (λ (t : List ℕ). number_from (read_digits (in_digits hex 0 None) t)) (unsigned-bare (b ∷ s) (omega arith) n))

lone_sign : (hex : Bool) → finish_before_of (at Sign hex) ≡ number_in hex (code "+" ∷ [])
unfolding number_in read_digits read_digit digit_of starts_with
lone_sign true = refl
lone_sign false = refl

signed : (hex : Bool) (s : List ℕ) → finish_before_of (characters_of (at Sign hex) s) ≡ number_in hex (code "+" ∷ s)
unfolding handed_on stage_after
signed hex [] = lone_sign hex
signed hex (b ∷ s) =
    digits Sign hex b s refl
    ∙ sym (number-some (code "+" ∷ b ∷ s) hex (omega arith)
    ∙ ap (λ (t : List ℕ). number_from (read_digits (in_digits hex 0 None) t)) (unsigned_plus (code "+" ∷ b ∷ s) (omega arith) refl))

-- after what selects the base
in_base : (hex : Bool) (s : List ℕ) → finish_before_of (characters_of (at Prefix hex) s) ≡ number_in hex s
unfolding handed_on stage_after number_in
in_base hex [] = refl
in_base hex (b ∷ s) = by_sign (eqb b (code "+")) refl
  where
    by_sign : (t : Bool) → eqb b (code "+") ≡ t → finish_before_of (characters_of (at Prefix hex) (b ∷ s)) ≡ number_in hex (b ∷ s)
    by_sign true e =
        leads Prefix Sign hex b s (simp e) refl ∙ signed hex s ∙ ap (λ (c : ℕ). number_in hex (c ∷ s)) (sym (eqb-true b (code "+") e))
    by_sign false e = digits Prefix hex b s (simp e) ∙ bare-number hex b s (eqb-false b (code "+") e)

after-zero : (s : List ℕ) → finish_before_of (characters_of (at Zero false) s) ≡ number_of (code "0" ∷ s)
unfolding handed_on stage_after number_of number_in read_digits read_digit digit_of starts_with
after-zero [] = refl
after-zero (b ∷ s) = by-x (eqb b (code "x")) refl
  where
    by-x : (t : Bool) → eqb b (code "x") ≡ t → finish_before_of (characters_of (at Zero false) (b ∷ s)) ≡ number_of (code "0" ∷ b ∷ s)
    by-x true e =
        leads Zero Prefix false b s (simp e) refl
        ∙ in_base true s
        ∙ ap (λ (c : ℕ). number_of (code "0" ∷ c ∷ s)) (sym (eqb-true b (code "x") e))
    by-x false e =
        digits Zero false b s (simp e)
        ∙ bare-number false (code "0") (b ∷ s) (λ z. omega (arith, z))
        ∙ sym (number-plain (code "0" ∷ b ∷ s) (simp e))

-- the number of the characters
pub characters_number : (s : List ℕ) → finish_before_of (characters_of start s) ≡ number_of s
unfolding handed_on stage_after number_of number_in starts_with
characters_number [] = refl
characters_number (b ∷ s) = by_first (eqb b (code "+")) (eqb b (code "0")) refl refl
  where
    by_first : (t u : Bool) → eqb b (code "+") ≡ t → eqb b (code "0") ≡ u → finish_before_of (characters_of start (b ∷ s)) ≡ number_of (b ∷ s)
    by_first true u e d =
        leads Begin Sign false b s (simp e) refl
        ∙ signed false s
        ∙ sym (number-plain (code "+" ∷ s) refl)
        ∙ ap (λ (c : ℕ). number_of (c ∷ s)) (sym (eqb-true b (code "+") e))
    by_first false true e d =
        leads Begin Zero false b s (simp (e, d)) refl ∙ after-zero s ∙ ap (λ (c : ℕ). number_of (c ∷ s)) (sym (eqb-true b (code "0") d))
    by_first false false e d =
        digits Begin false b s (simp (e, d)) ∙ bare-number false b s (eqb-false b (code "+") e) ∙ sym (number-plain (b ∷ s) (simp d))
