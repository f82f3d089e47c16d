-- What the engine answers: its judgement, and where that passes, what it reads.
use Rattle.std.specs.Prelude.{ℕ, cond, Result, Ok, Err}
use Rattle.refusals.specs.Refusals.{passed, no_refusal}
use Rattle.refusals.specs.declared.Refusal.{Refusal}
use Rattle.records.specs.declared.Records.{Records}
use Rattle.engine.specs.Engine.{judgement, readings}
use Rattle.esr.specs.Decode.{refused, accepted}
use Rattle.esr.specs.declared.Answer.{Answer}

unfoldable pub engine_answer : ℕ → Answer
engine_answer esr = cond (passed (judgement esr)) (accepted (readings esr)) (refused (judgement esr))

-- a judgement, with these records where it passes
unfoldable pub judged_answer : Result Unit Refusal → Records → Answer
judged_answer (Ok u) s = record { refusal = no_refusal; records = s }
judged_answer (Err f) s = refused f
