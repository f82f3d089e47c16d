-- The invariant says what is left: the state so far, on the characters from the loop's offset to the first stop, leads
-- to the whole answer.
use Rattle.std.proofs.Common.{◌≡◌, drop, length, sym, ◌∙◌, subst, arith, rules}
use Rattle.number.proofs.Laws.{digits-ended, digits-refused, digits_more, before-end, before-stop}
use Rattle.number.specs.Steps.{DigitsTo}
use Rattle.number.proofs.read_digits.Goals as goal

pub returns-then-is_stop-clause-read : goal.returns-then-is_stop-clause-read
returns-then-is_stop-clause-read c =
    let a = c.args in
    digits-ended a.from a.s.now c.loop-at.state c.loop-at.at c.loop-at.invariant.0
    (before-stop a.s.now c.loop-at.at (search rules) (sym c.is_stop.ensures ∙ c.if-is_stop.true))

pub returns-else-is_stop-clause-read : goal.returns-else-is_stop-clause-read
returns-else-is_stop-clause-read c =
    let a = c.args in
    digits-refused a.from a.s.now c.loop-at.state c.loop-at.at c.loop-at.invariant.0
    (search rules) c.read_digit-next.ensures
    (sym c.is_stop.ensures ∙ c.if-is_stop.false)
    (sym c.is_refused.ensures ∙ c.if-is_refused.true)

pub loop-at-preserved : goal.loop-at-preserved
loop-at-preserved c =
    let a = c.args in (
      digits_more a.from a.s.now c.loop-at.state c.loop-at.at c.loop-at.invariant.0
          (search rules) c.read_digit-next.ensures
          (sym c.is_refused.ensures ∙ c.if-is_refused.false),
      omega arith,
    )

pub returns-clause-read : goal.returns-clause-read
returns-clause-read c =
    let a = c.args in
    let end : c.loop-at.at ≡ length a.s.now = omega arith in
    subst (λ k. DigitsTo a.from (drop a.from.at a.s.now) (record { state = c.loop-at.state; at = k })) end
    (digits-ended a.from a.s.now c.loop-at.state c.loop-at.at c.loop-at.invariant.0
    (before-end a.s.now c.loop-at.at (omega arith)))
