-- The bits at their places and the status add up, and the sum is small.
use Prim.Native.Nat.{◌%◌}
use native.Mathlib.Omega.{arith}
use borrow.Author.Rules.{rules}
use Rattle.layout_sets.specs.Outcomes.{outcome_of}
use Rattle.layout_sets.proofs.Outcomes.{status_less}
use Rattle.layout_sets.proofs.outcome.Goals as goal

pub overflow_add-result-3 : goal.overflow_add-result-3
overflow_add-result-3 c = omega (arith, status_less (c.args.index % 4))

pub returns : goal.returns
unfolding outcome_of
returns c = search rules
