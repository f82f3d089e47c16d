-- The invariant: what is left of the phrases is at fault as all of them are. Each turn is one phrase.
use mathlib.Core.Path.{refl, sym, ap, ◌∙◌}
use native.Mathlib.Omega.{arith}
use borrow.Author.Tests.{lt-ltb, le-ltb}
use Rattle.std.proofs.lemmas.Result.{err_from_is_err_and}
use Rattle.phrases.specs.Sheets.{fault}
use Rattle.phrases.proofs.Laws.{at-end}
use Rattle.phrases.proofs.judge_phrases.Goals as goal

pub loop-at-init : goal.loop-at-init
loop-at-init c = (omega arith, omega arith, refl)

pub returns-in_err-code : goal.returns-in_err-code
unfolding fault
returns-in_err-code c =
    let p = err_from_is_err_and c.from_residual.result c.from_residual.ensures.1 in
    rw (p.1, p.2, c.loop-at.invariant.2, c.in_err-code.ensures.0) (sym c.in_err-code.ensures.1)

pub returns-then-code-least : goal.returns-then-code-least
unfolding fault
returns-then-code-least c =
    rw (c.loop-at.invariant.2, c.in_ok-code.ensures.2, lt-ltb _ _ c.if-code-least.true)

pub loop-at-preserved : goal.loop-at-preserved
unfolding fault
loop-at-preserved c =
    let l = c.loop-at in (
      omega (arith, c.in_ok-code.ensures.0),
      c.in_ok-code.ensures.1,
      l.invariant.2 ∙ ap (fault l.least) c.in_ok-code.ensures.2 ∙ rw (le-ltb _ _ c.if-code-least.false),
    )

pub returns : goal.returns
unfolding fault
returns c = rw (c.loop-at.invariant.2, at-end c.loop-at.at _ _ c.requires.1 (omega arith))
