-- A class without a place is refused; one with a place is checked as its place says.
use Rattle.std.specs.Prelude.{Err}
use Rattle.refusals.specs.Refusals.{checked}
use mathlib.Core.Path.{ap, ◌∙◌}
use Rattle.engine.proofs.Laws.{unplaced, placed}
use Rattle.engine.proofs.failure_of.Goals as goal

pub returns-then-place-eq0 : goal.returns-then-place-eq0
returns-then-place-eq0 c =
    let a = c.args in
    ap Err c.carrying.ensures
    ∙ unplaced a.class a.iss c.place_word-place.result c.place_word-place.ensures c.if-place-eq0.true

pub returns : goal.returns
returns c =
    let a = c.args in
    c.first_failure.ensures
    ∙ ap checked
    (placed a.class a.iss c.place_word-place.result c.place_word-place.ensures c.if-place-eq0.false
    c.answers_of.result c.check_word.result c.byte.result c.answers_of.ensures c.check_word.ensures c.byte.ensures)
