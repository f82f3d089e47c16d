-- By whether the place is said.
use mathlib.Core.Path.{sym, ◌∙◌}
use native.Mathlib.Omega.{arith}
use Rattle.buffer.proofs.Appending.{none}
use Rattle.survey_reply.proofs.Laws.{line-said, line-unsaid}
use Rattle.survey_reply.proofs.put_place.Goals as goal

pub returns-then-is_said : goal.returns-then-is_said
returns-then-is_said c =
    let a = c.args in
    rw (line-said a.all a.place a.count (sym c.is_said.ensures ∙ c.if-is_said.true)) c.put_count.ensures

pub returns : goal.returns
returns c =
    let a = c.args in
    rw (line-unsaid a.all a.place a.count (sym c.is_said.ensures ∙ c.if-is_said.false)) (none (omega arith))
