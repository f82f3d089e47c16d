-- The invariant says what is left: the answer is that of the state so far on the rest of the part.
use Prim.Native.Nat.{◌+◌}
use mathlib.Core.Bool.{false}
use mathlib.Core.Path.{◌≡◌, sym, ap, ◌∙◌}
use native.Mathlib.Omega.{arith}
use lib.ListN.{drop}
use Rattle.line_reader.proofs.Laws.{part-done, part-ended, part-more}
use Rattle.line_reader.specs.Lines.{part_of}
use Rattle.line_reader.specs.declared.LinePart.{LinePart}
use Rattle.number.specs.declared.NumberState.{NumberState}
use borrow.Author.Rules.{rules}
use Rattle.line_reader.proofs.take_line.Goals as goal

pub returns-then-b-eq10 : goal.returns-then-b-eq10
returns-then-b-eq10 c =
    let a = c.args in
    sym (c.loop-at.invariant.0 ∙ part-ended c.loop-at.state a.s.now c.loop-at.at (search rules) c.if-b-eq10.true)

pub loop-at-preserved : goal.loop-at-preserved
loop-at-preserved c =
    let s = c.args.s.now in (
      c.loop-at.invariant.0
          ∙ part-more c.loop-at.state s c.loop-at.at (search rules) c.if-b-eq10.false
          ∙ ap (λ (st : NumberState). part_of st (c.loop-at.at + 1) (drop (c.loop-at.at + 1) s)) (sym c.step-state.ensures),
      omega arith,
    )

pub returns : goal.returns
returns c =
    let end : c.loop-at.at ≡ c.max.result = omega (arith, c.max.ensures) in
    sym
    (c.loop-at.invariant.0
    ∙ part-done c.loop-at.state c.args.s.now c.loop-at.at (omega arith)
    ∙ ap {B = LinePart} (λ n. record { state = c.loop-at.state; next = n; ended = false }) end)
