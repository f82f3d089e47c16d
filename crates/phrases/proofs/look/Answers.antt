-- The invariant: the code lies in what is left of the phrases where it lies in all of them. Each turn is one phrase.
use Prim.Native.Nat.{ℕ}
use mathlib.Core.List.{List}
use mathlib.Core.Path.{ap, ◌∙◌}
use native.Mathlib.Omega.{arith}
use borrow.Author.Tests.{eq-eqb, ne_eqb}
use Rattle.phrases.specs.Sheets.{place_of, place_in, phrases_of}
use Rattle.phrases.proofs.Laws.{at-end}
use Rattle.phrases.proofs.look.Goals as goal

pub loop-at-init : goal.loop-at-init
unfolding place_in
loop-at-init c = (omega arith, ap (λ (b : List ℕ). place_of c.args.code (phrases_of 3 b)) c.end_of-end.ensures.1)

pub returns-in_default : goal.returns-in_default
unfolding place_of
returns-in_default c = rw (c.loop-at.invariant.1, c.in_default.ensures.0)

pub returns-then-here-code : goal.returns-then-here-code
unfolding place_of
returns-then-here-code c = rw (c.loop-at.invariant.1, c.in-Ok.ensures.2, eq-eqb _ _ c.if-here-code.true)

pub loop-at-preserved : goal.loop-at-preserved
unfolding place_of
loop-at-preserved c = (
  omega (arith, c.in-Ok.ensures.0),
  c.loop-at.invariant.1 ∙ ap (place_of _) c.in-Ok.ensures.2 ∙ rw (ne_eqb _ _ c.if-here-code.false),
)

pub returns : goal.returns
unfolding place_of
returns c = rw (c.loop-at.invariant.1, at-end c.loop-at.at _ _ c.end_of-end.ensures.0 (omega arith))
