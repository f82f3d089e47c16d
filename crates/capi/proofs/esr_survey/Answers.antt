-- The answer is the survey's, told to C in numbers.
use Prim.Native.Nat.{ℕ}
use mathlib.Core.List.{List}
use mathlib.Core.Path.{ap}
use Rattle.std.specs.Prelude.{Result}
use Rattle.refusals.specs.declared.Refusal.{Refusal}
use Rattle.survey.specs.declared.Tally.{Tally}
use Rattle.capi.specs.Answers.{survey_answer}
use Rattle.capi.proofs.esr_survey.Goals as goal

pub returns : goal.returns
returns c =
    rw (c.survey_answer.ensures)
    (ap (λ (p : Result Tally Refusal × List ℕ). (survey_answer p.0, p.1)) c.survey.ensures)
