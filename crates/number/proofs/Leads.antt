-- Three characters at most stand before the digits, and the loop over the digits ends at the first stop: so
-- parse_number's number is that of #107. By the stages, each of which is later than the one before it.
use Prim.Native.Char.{code}
use Rattle.std.proofs.Common.{◌≡◌, ℕ, ◌+◌, ◌<◌, ◌≤◌, Bool, true, false, cond, eqb, ◌⊎◌, List, [], ◌∷◌, length, drop}
use Rattle.std.proofs.Common.{sym, refl, ap, ◌∙◌, subst, inl, inr, ⊎_elim, arith, drop-drop, ne_eqb}
use mathlib.Core.Bool.{false≢true}
use Rattle.number.proofs.Laws.{either, by-test, stop-low, next_lead}
use Rattle.number.proofs.Steps.{Settled, characters_of, settled_steps, characters_number}
use Rattle.number.proofs.Stops.{Within, WithinAt, stage_within, end-free, rest-drop, same_whole}
use Rattle.number.specs.Numbers.{refused, number_of}
use Rattle.number.specs.Rest.{is_stop, before_stop, rest_of, are_stops, whole_by, whole_of}
use Rattle.number.specs.Steps.{start, stage_after, advance_of, is_digits, handed_on, finish_before_of, lead_of, DigitsTo}
use Rattle.number.specs.declared.Lead.{Lead}
use Rattle.number.specs.declared.Number.{Number}
use Rattle.number.specs.declared.NumberState.{NumberState}
use Rattle.number.specs.declared.Stage.{Stage}
use Rattle.number.specs.declared.Stage.TheVariants.{Begin, Zero, Prefix, Sign, Digits, Stopped, Remark}
use Rattle.refusals.specs.Refusals.{passed}

-- how many characters at least stand before a stage
abbrev rank : Stage → ℕ
rank Begin = 0
rank Zero = 1
rank Prefix = 2
rank Sign = 3
rank Digits = 4
rank Stopped = 0
rank Remark = 0

up : (q : Stage) (b : ℕ) → WithinAt q → is_digits (stage_after q b) ≡ false → rank q < rank (stage_after q b)
unfolding stage_after
up Begin b w e = either (λ (p : Stage). 0 < rank p) (eqb b (code "+")) (omega arith) (either (λ (p : Stage). 0 < rank p) (eqb b (code "0")) (omega arith) (omega arith))
up Zero b w e = either (λ (p : Stage). 1 < rank p) (eqb b (code "x")) (omega arith) (omega arith)
up Prefix b w e = either (λ (p : Stage). 2 < rank p) (eqb b (code "+")) (omega arith) (omega arith)
up Sign b w e = omega arith
up Digits b w e = absurd (false≢true (sym e))
up Stopped b w e = absurd (false≢true (sym w))
up Remark b w e = absurd (false≢true (sym w))

late : (q : Stage) (s : List ℕ) → 3 ≤ rank q → Settled q s
unfolding stage_after
late q [] h = tt
late Begin (b ∷ s) h = absurd (omega arith)
late Zero (b ∷ s) h = absurd (omega arith)
late Prefix (b ∷ s) h = absurd (omega arith)
late Sign (b ∷ s) h = refl
late Digits (b ∷ s) h = refl
late Stopped (b ∷ s) h = absurd (omega arith)
late Remark (b ∷ s) h = absurd (omega arith)

-- a stop stands for nothing before the digits: what is taken there is none
low-digits : (q : Stage) (b : ℕ) → WithinAt q → b ≤ 32 → is_digits (stage_after q b) ≡ true
unfolding stage_after
low-digits Begin b w l = simp (ne_eqb b (code "+") (λ e. omega (arith, e)), ne_eqb b (code "0") (λ e. omega (arith, e)))
low-digits Zero b w l = simp (ne_eqb b (code "x") (λ e. omega (arith, e)))
low-digits Prefix b w l = simp (ne_eqb b (code "+") (λ e. omega (arith, e)))
low-digits Sign b w l = refl
low-digits Digits b w l = refl
low-digits Stopped b w l = absurd (false≢true (sym w))
low-digits Remark b w l = absurd (false≢true (sym w))

lead_no_stop : (q : Stage) (b : ℕ) → WithinAt q → is_digits (stage_after q b) ≡ false → is_stop b ≡ false
lead_no_stop q b w e =
    by-test (λ (t : Bool). is_stop b ≡ t → t ≡ false) (is_stop b)
    (λ h i. absurd (false≢true (sym e ∙ low-digits q b w (stop-low b i))))
    (λ h i. refl)
    refl

module _ (s : List ℕ) where
  -- the bytes before the first stop, from an offset on
  abbrev left : Lead → List ℕ
  left l = before_stop (drop l.at s)

  -- k characters at least are taken, or all that stand before the digits; nothing is refused, and what is left leads to the whole's state
  pub record Ahead (k : ℕ) (l : Lead) : Type 0 where
    pub within : Within l.state
    pub free : refused l.state.reason ≡ false
    pub same : characters_of start (before_stop s) ≡ characters_of l.state (left l)
    pub passed_over : length (before_stop s) ≡ l.at + length (left l)
    pub settled : Settled l.state.stage (left l) ⊎ (k ≤ rank l.state.stage)

  pub lead_ahead : (k : ℕ) (l : Lead) {r : Lead} → r ≡ lead_of l (drop l.at s) → Ahead k l → Ahead (k + 1) r
  unfolding lead_of handed_on before_stop
  lead_ahead k l e a = subst (Ahead (k + 1)) (sym e) (by-rest (drop l.at s) refl)
    where
      by-rest : (r : List ℕ) → drop l.at s ≡ r → Ahead (k + 1) (lead_of l r)
      by-rest [] d = record { within = a.within; free = a.free; same = a.same; passed_over = a.passed_over; settled = inl (rw d tt) }
      by-rest (b ∷ r) d = by-test
          (λ (t : Bool). Ahead (k + 1) (cond t l (record { state = advance_of l.state b; at = l.at + 1 })))
          (is_digits (stage_after l.state.stage b))
          (λ h. record { within = a.within; free = a.free; same = a.same; passed_over = a.passed_over; settled = inl (rw d (either (Settled l.state.stage) (is_stop b) tt h)) })
          (λ h.
          let one : before_stop (drop l.at s) ≡ b ∷ before_stop r = ap before_stop d ∙ simp (lead_no_stop l.state.stage b a.within h) in
          let rest : drop (l.at + 1) s ≡ r = sym (drop-drop 1 l.at s) ∙ ap (drop 1) d in
          record {
            within = stage_within l.state.stage b a.within;
            free = a.free;
            same =
                a.same
                ∙ ap (characters_of l.state) one
                ∙ ap (λ (st : NumberState). characters_of st (before_stop r)) (next_lead l.state b a.free refl h)
                ∙ ap (λ (t : List ℕ). characters_of (advance_of l.state b) (before_stop t)) (sym rest);
            passed_over = omega (arith, a.passed_over, ap length one, ap (λ (t : List ℕ). length (before_stop t)) rest);
            settled =
                inr
                (⊎_elim (λ t. absurd (false≢true (sym h ∙ (rw one at t))))
                (λ n. omega (arith, up l.state.stage b a.within h)) a.settled);
          })

  -- so three are enough, and the rest are digits
  module _ (l : Lead) {r : Lead} (a : Ahead 3 l) (d : DigitsTo l (drop l.at s) r) where
    ahead_number : finish_before_of r.state ≡ number_of (before_stop s)
    ahead_number =
        ap finish_before_of
        (d.0
        ∙ sym (a.same ∙ settled_steps l.state (left l) a.free (⊎_elim (λ t. t) (λ n. late l.state.stage (left l) n) a.settled)))
        ∙ characters_number (before_stop s)

    ahead_stop : passed (finish_before_of r.state).refusal ≡ true → r.at ≡ length (before_stop s)
    ahead_stop e = d.1 (end-free r.state e) ∙ sym a.passed_over

    pub ahead_whole : whole_by (finish_before_of r.state) (are_stops (drop r.at s)) ≡ whole_of s
    unfolding whole_of
    ahead_whole =
        same_whole (finish_before_of r.state) (are_stops (drop r.at s)) (are_stops (rest_of s))
        (λ e. ap (λ (k : ℕ). are_stops (drop k s)) (ahead_stop e) ∙ ap are_stops (rest-drop s))
        ∙ ap (λ (n : Number). whole_by n (are_stops (rest_of s))) ahead_number
