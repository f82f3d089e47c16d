-- A step for each byte, then the number before the stop or the number of the whole, is what #107 says of all the bytes at once. The bytes before
-- the first stop are characters alone; from there on the value stays, and only what stands behind the number is asked.
use Prim.Native.Char.{code}
use Rattle.std.proofs.Common.{◌≡◌, ℕ, ◌+◌, ◌<◌, Bool, true, false, cond, not, ◌&&◌, eqb, List, [], ◌∷◌, length, get_or, drop, sym, refl, ap, ◌∙◌, subst, arith}
use mathlib.Core.Bool.{false≢true, and-false}
use Rattle.number.proofs.Laws.{next_of, either, by-test, un_not, step-refused, step-stop, step-next, before_more}
use Rattle.number.proofs.Steps.{characters_of, handed_refused, read_stage, characters_number}
use Rattle.number.specs.Numbers.{refused, number_of}
use Rattle.number.specs.Rest.{is_stop, before_stop, rest_of, no_stop, are_stops, bad_rest, whole_by, whole_of}
use Rattle.number.specs.Steps.{start, stage_after, advance_of, is_digits, end_reason, is_remark, step_of, handed_on, steps_of, finish_before_of, finish_of, StepsTo}
use Rattle.number.specs.declared.Number.{Number}
use Rattle.number.specs.declared.NumberState.{NumberState}
use Rattle.number.specs.declared.Stage.{Stage}
use Rattle.number.specs.declared.Stage.TheVariants.{Begin, Zero, Prefix, Sign, Digits, Stopped, Remark}
use Rattle.refusals.specs.Refusals.{passed}
use Rattle.refusals.specs.declared.Reason.{Reason}

-- a stop has ended the number
abbrev pub is_behind : Stage → Bool
is_behind Begin = false
is_behind Zero = false
is_behind Prefix = false
is_behind Sign = false
is_behind Digits = false
is_behind Stopped = true
is_behind Remark = true

pub steps_refused : (st : NumberState) (s : List ℕ) → refused st.reason ≡ true → steps_of st s ≡ st
steps_refused st s h = handed_refused step-refused st s h

-- The bytes before the first stop.

pub steps_split : (st : NumberState) (s : List ℕ) → steps_of st s ≡ steps_of (characters_of st (before_stop s)) (rest_of s)
unfolding handed_on before_stop rest_of
steps_split st [] = refl
steps_split st (b ∷ s) =
    by-test (λ (t : Bool). steps_of st (b ∷ s) ≡ steps_of (characters_of st (cond t [] (b ∷ before_stop s))) (cond t (b ∷ s) (rest_of s))) (is_stop b)
    (λ e. refl)
    (λ e. ap (λ (r : NumberState). steps_of r s) (step-next st b e) ∙ steps_split (next_of st b) s)

-- what is left begins with a stop, if there is anything
abbrev Ended : List ℕ → Type 0
Ended [] = Unit {0}
Ended (b ∷ s) = is_stop b ≡ true

rest_ended : (s : List ℕ) → Ended (rest_of s)
unfolding rest_of
rest_ended [] = tt
rest_ended (b ∷ s) = by-test (λ (t : Bool). Ended (cond t (b ∷ s) (rest_of s))) (is_stop b) (λ e. e) (λ e. rest_ended s)

-- No character leads behind the number.

abbrev pub WithinAt : Stage → Type 0
WithinAt q = is_behind q ≡ false

abbrev pub Within : NumberState → Type 0
Within st = WithinAt st.stage

pub stage_within : (q : Stage) (b : ℕ) → WithinAt q → WithinAt (stage_after q b)
unfolding stage_after
stage_within Begin b w = either WithinAt (eqb b (code "+")) refl (either WithinAt (eqb b (code "0")) refl refl)
stage_within Zero b w = either WithinAt (eqb b (code "x")) refl refl
stage_within Prefix b w = either WithinAt (eqb b (code "+")) refl refl
stage_within Sign b w = refl
stage_within Digits b w = refl
stage_within Stopped b w = w
stage_within Remark b w = w

characters_within : (st : NumberState) (s : List ℕ) → Within st → Within (characters_of st s)
unfolding handed_on next_of
characters_within st [] w = w
characters_within st (b ∷ s) w =
    characters_within (next_of st b) s
    (either Within (refused st.reason) w
    (either Within (is_digits (stage_after st.stage b)) (ap is_behind (read_stage (advance_of st b) b)) (stage_within st.stage b w)))

not_remark : (q : Stage) → WithinAt q → is_remark q ≡ false
not_remark Begin w = refl
not_remark Zero w = refl
not_remark Prefix w = refl
not_remark Sign w = refl
not_remark Digits w = refl
not_remark Stopped w = refl
not_remark Remark w = w

-- From the first stop on.

-- the state at another stage
abbrev standing : Stage → NumberState → NumberState
standing q st = record { value = st.value; reason = st.reason; hex = st.hex; stage = q }

remark_stays : (st : NumberState) (b : ℕ) → step_of (standing Remark st) b ≡ standing Remark st
unfolding step_of stage_after
remark_stays st b =
    either (λ (r : NumberState). r ≡ standing Remark st) (refused st.reason) refl
    (either (λ (r : NumberState). r ≡ standing Remark st) (is_stop b) refl refl)

remark_steps : (st : NumberState) (s : List ℕ) → steps_of (standing Remark st) s ≡ standing Remark st
unfolding handed_on
remark_steps st [] = refl
remark_steps st (b ∷ s) = ap (λ (r : NumberState). steps_of r s) (remark_stays st b) ∙ remark_steps st s

stop_remark : (st : NumberState) (b : ℕ) → refused st.reason ≡ false → is_stop b ≡ false → step_of (standing Stopped st) b ≡ standing Remark st
unfolding step_of stage_after
stop_remark st b free e = simp (free, e)

-- behind a number that is not refused its value stays, and the stage says whether stops alone stand there
behind : (st : NumberState) (s : List ℕ) → refused st.reason ≡ false
    → steps_of (standing Stopped st) s ≡ standing (cond (are_stops s) Stopped Remark) st
unfolding handed_on are_stops
behind st [] free = refl
behind st (b ∷ s) free =
    by-test (λ (t : Bool). steps_of (step_of (standing Stopped st) b) s ≡ standing (cond (t && are_stops s) Stopped Remark) st) (is_stop b)
    (λ e. ap (λ (r : NumberState). steps_of r s) (step-stop (standing Stopped st) b free e) ∙ behind st s free)
    (λ e. ap (λ (r : NumberState). steps_of r s) (stop_remark st b free e) ∙ remark_steps st s)

end_refused : (q : Stage) (reason : Reason) → refused reason ≡ true → refused (end_reason q reason) ≡ true
end_refused Begin reason h = refl
end_refused Zero reason h = h
end_refused Prefix reason h = refl
end_refused Sign reason h = refl
end_refused Digits reason h = h
end_refused Stopped reason h = h
end_refused Remark reason h = h

-- so a number that passes at the end was not refused before it
pub end-free : (st : NumberState) → passed (finish_before_of st).refusal ≡ true → refused st.reason ≡ false
end-free st e =
    by-test (λ (t : Bool). refused st.reason ≡ t → t ≡ false) (refused st.reason)
    (λ h i. absurd (false≢true (sym (ap not e) ∙ end_refused st.stage st.reason i)))
    (λ h i. refl)
    refl

-- the number that the end of the input, or a stop, would give here
abbrev ending : NumberState → NumberState
ending st = record { value = st.value; reason = end_reason st.stage st.reason; hex = st.hex; stage = Stopped }

-- what a state within the number comes to over a rest: before the stop the number here, and as a whole that number or 23
abbrev Ends : NumberState → List ℕ → NumberState → Type 0
Ends st s end =
    (finish_before_of end ≡ finish_before_of st)
    × (finish_of end ≡ cond (passed (finish_before_of st).refusal && not (are_stops s)) bad_rest (finish_before_of st))

module _ (st : NumberState) (within : Within st) where
  stop-ending : (b : ℕ) → refused st.reason ≡ false → is_stop b ≡ true → step_of st b ≡ ending st
  stop-ending b free h = step-stop st b free h ∙ simp (not_remark st.stage within)

  -- a number that is refused stays so, and at the end of the input nothing is left to ask
  ends-here : (s : List ℕ) → (passed (finish_before_of st).refusal && not (are_stops s)) ≡ false → Ends st s st
  ends-here s e = (refl, simp (not_remark st.stage within, e))

  ends-stopped : (s : List ℕ) → Ends st s (steps_of (ending st) s)
  ends-stopped s =
      by-test (λ (t : Bool). passed (finish_before_of st).refusal ≡ t → Ends st s (steps_of (ending st) s)) (passed (finish_before_of st).refusal)
      (λ e f. rw (behind (ending st) s (ap not f))
      (by-test (λ (t : Bool). are_stops s ≡ t → Ends st s (standing (cond t Stopped Remark) (ending st))) (are_stops s)
      (λ g h. (refl, simp (f, h))) (λ g h. (refl, simp (f, h))) refl))
      (λ e f. rw (steps_refused (ending st) s (ap not f)) (refl, simp f))
      refl

  ends : (s : List ℕ) → Ended s → Ends st s (steps_of st s)
  unfolding handed_on are_stops
  ends [] h = ends-here [] (and-false (passed (finish_before_of st).refusal))
  ends (b ∷ s) h =
      by-test (λ (t : Bool). Ends st (b ∷ s) (steps_of st (b ∷ s))) (refused st.reason)
      (λ e. rw (steps_refused st (b ∷ s) e) (ends-here (b ∷ s) (simp (un_not (passed (finish_before_of st).refusal) (end_refused st.stage st.reason e)))))
      (λ e. subst (λ (r : NumberState). Ends st (b ∷ s) (steps_of r s)) (sym (stop-ending b e h)) (rw h (ends-stopped s)))

-- A step for each byte is what is read at once.

read-ends : (s : List ℕ) → Ends (characters_of start (before_stop s)) (rest_of s) (steps_of start s)
read-ends s =
    rw (steps_split start s)
    (ends (characters_of start (before_stop s)) (characters_within start (before_stop s) refl) (rest_of s) (rest_ended s))

-- the number before the first stop
pub steps_before : (s : List ℕ) → finish_before_of (steps_of start s) ≡ number_of (before_stop s)
steps_before s = (read-ends s).0 ∙ characters_number (before_stop s)

-- the number of the whole
pub steps_whole : (s : List ℕ) → finish_of (steps_of start s) ≡ whole_of s
unfolding whole_of
steps_whole s =
    (read-ends s).1
    ∙ ap (λ (n : Number). cond (passed n.refusal && not (are_stops (rest_of s))) bad_rest n) (characters_number (before_stop s))

-- The bytes taken: a state that is not refused stands behind its number just where one of the bytes was a stop. So a caller that counts its steps up to
-- there has what read_number takes.

rest-no_stop : (s : List ℕ) → no_stop s ≡ no_stop (rest_of s)
unfolding no_stop rest_of
rest-no_stop [] = refl
rest-no_stop (b ∷ s) =
    by-test (λ (t : Bool). is_stop b ≡ t → no_stop (b ∷ s) ≡ no_stop (cond t (b ∷ s) (rest_of s))) (is_stop b)
    (λ e f. refl)
    (λ e f. simp f (rest-no_stop s))
    refl

abbrev Counted : List ℕ → NumberState → Type 0
Counted s end = refused end.reason ≡ false → is_behind end.stage ≡ not (no_stop s)

-- what is refused is not counted
refused_uncounted : (s : List ℕ) (end : NumberState) → refused end.reason ≡ true → Counted s end
refused_uncounted s end h f = absurd (false≢true (sym f ∙ h))

counted-stopped : (st : NumberState) (b : ℕ) (s : List ℕ) → is_stop b ≡ true → Counted (b ∷ s) (steps_of (ending st) s)
unfolding no_stop
counted-stopped st b s h =
    by-test (λ (t : Bool). refused (ending st).reason ≡ t → Counted (b ∷ s) (steps_of (ending st) s)) (refused (ending st).reason)
    (λ e f. rw (steps_refused (ending st) s f) (refused_uncounted (b ∷ s) (ending st) f))
    (λ e f. rw (behind (ending st) s f, h) (λ free. either (λ (q : Stage). is_behind q ≡ true) (are_stops s) refl refl))
    refl

counted : (st : NumberState) (s : List ℕ) → Within st → Ended s → Counted s (steps_of st s)
unfolding handed_on no_stop
counted st [] within h = λ f. within
counted st (b ∷ s) within h =
    by-test (λ (t : Bool). refused st.reason ≡ t → Counted (b ∷ s) (steps_of st (b ∷ s))) (refused st.reason)
    (λ e f. rw (steps_refused st (b ∷ s) f) (refused_uncounted (b ∷ s) st f))
    (λ e f. subst (λ (r : NumberState). Counted (b ∷ s) (steps_of r s)) (sym (stop-ending st within b f h)) (counted-stopped st b s h))
    refl

pub steps_behind : (s : List ℕ) → refused (steps_of start s).reason ≡ false → is_behind (steps_of start s).stage ≡ not (no_stop s)
steps_behind s =
    rw (steps_split start s, rest-no_stop s)
    (counted (characters_of start (before_stop s)) (rest_of s) (characters_within start (before_stop s) refl) (rest_ended s))

-- read_number's loop: the state so far, on the characters that are left, leads to the state of all of them
abbrev pub StepsFrom : List ℕ → NumberState → ℕ → Type 0
StepsFrom s st i =
    (characters_of start (before_stop s) ≡ characters_of st (before_stop (drop i s))) × (length (before_stop s) ≡ i + length (before_stop (drop i s)))

module _ (s : List ℕ) (st : NumberState) (i : ℕ) (inv : StepsFrom s st i) where
  -- at a stop and at the end nothing is left
  pub steps_ended : before_stop (drop i s) ≡ [] → StepsTo s (record { state = st; at = i })
  unfolding handed_on
  steps_ended e =
      (ap finish_before_of (sym (inv.0 ∙ ap (characters_of st) e)) ∙ characters_number (before_stop s), omega (arith, inv.1, ap length e))

  pub steps_more : i < length s → is_stop (get_or s i 0) ≡ false → {next : NumberState} → next ≡ step_of st (get_or s i 0) → StepsFrom s next (i + 1)
  unfolding handed_on
  steps_more h e {next} d = (
    inv.0
        ∙ ap (characters_of st) (before_more s i h e)
        ∙ ap (λ (r : NumberState). characters_of r (before_stop (drop (i + 1) s))) (sym (d ∙ step-next st (get_or s i 0) e)),
    omega (arith, inv.1, ap length (before_more s i h e)),
  )

-- And read at once.

pub rest-drop : (s : List ℕ) → drop (length (before_stop s)) s ≡ rest_of s
unfolding before_stop rest_of
rest-drop [] = refl
rest-drop (b ∷ s) =
    by-test (λ (t : Bool). drop (length (cond t [] (b ∷ before_stop s))) (b ∷ s) ≡ cond t (b ∷ s) (rest_of s)) (is_stop b)
    (λ e. refl)
    (λ e. rest-drop s)

-- only a number that is not refused is asked for what stands behind it
pub same_whole : (n : Number) (t u : Bool) → (passed n.refusal ≡ true → t ≡ u) → whole_by n t ≡ whole_by n u
same_whole n t u h =
    by-test (λ (p : Bool). passed n.refusal ≡ p → cond (p && not t) bad_rest n ≡ cond (p && not u) bad_rest n) (passed n.refusal)
    (λ e f. ap (λ (v : Bool). cond (not v) bad_rest n) (h f))
    (λ e f. refl)
    refl
