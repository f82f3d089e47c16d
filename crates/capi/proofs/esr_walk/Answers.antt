-- The walk's own answer and run; both refusals in numbers.
use Prim.Native.Nat.{ℕ}
use mathlib.Core.List.{List}
use mathlib.Core.Path.{ap}
use Rattle.std.specs.Prelude.{Result}
use Rattle.capi.specs.Answers.{walk_answer}
use Rattle.refusals.specs.declared.Refusal.{Refusal}
use Rattle.walk.specs.declared.Walked.{Walked}
use Rattle.capi.proofs.esr_walk.Goals as goal

pub returns : goal.returns
unfolding walk_answer
returns c =
    rw (
      c.number-2.ensures,
      c.number.ensures,
      c.unwrap_or-ended.ensures,
      c.unwrap_or-refusal.ensures,
      c.unwrap_or-walked.ensures,
      c.err.ensures.value,
    )
    (ap (λ (o : Result Walked Refusal × List ℕ). (walk_answer o.0, o.1)) c.walk-answer.ensures)
