-- The invariant says what is left: the state so far, on the bytes up to the first stop, leads to the state of all of
-- them.
use Rattle.std.proofs.Common.{◌≡◌, length, sym, ◌∙◌, subst, arith, rules}
use Rattle.number.proofs.Laws.{before-end, before-stop}
use Rattle.number.proofs.Stops.{steps_ended, steps_more}
use Rattle.number.specs.Steps.{StepsTo}
use Rattle.number.proofs.read_before.Goals as goal

pub returns-then-is_stop : goal.returns-then-is_stop
returns-then-is_stop c =
    let s = c.args.s.now in
    steps_ended s c.loop-at.state c.loop-at.at c.loop-at.invariant
    (before-stop s c.loop-at.at (search rules) (sym c.is_stop.ensures ∙ c.if-is_stop.true))

pub loop-at-preserved : goal.loop-at-preserved
loop-at-preserved c =
    let s = c.args.s.now in
    steps_more s c.loop-at.state c.loop-at.at c.loop-at.invariant (search rules)
    (sym c.is_stop.ensures ∙ c.if-is_stop.false) c.step-state.ensures

pub returns : goal.returns
returns c =
    let s = c.args.s.now in
    let end : c.loop-at.at ≡ length s = omega arith in
    subst (λ k. StepsTo s (record { state = c.loop-at.state; at = k })) end
    (steps_ended s c.loop-at.state c.loop-at.at c.loop-at.invariant (before-end s c.loop-at.at (omega arith)))
