-- What the engine judges, and where that passes, its records: the tables' answer, since both engines agree.
use mathlib.Core.Path.{refl, ap, ◌∙◌}
use borrow.Author.Tests.{eqb-true, eqb-false}
use Rattle.refusals.proofs.Cases.{check-ok, check-err, check-same}
use Rattle.engine.specs.Engine.{judgement}
use Rattle.esr.specs.Decode.{refused}
use Rattle.esr.proofs.Engine.{engine_refuses, engine_accepts}
use Rattle.esr.proofs.decode.Goals as goal

pub returns-in-Ok : goal.returns-in-Ok
returns-in-Ok c =
    let esr = c.args.esr in
    let j = judgement esr in
    c.accept.ensures ∙ engine_accepts esr j refl (eqb-true _ 0 (check-ok j c.judge.ensures c.in-Ok.is))

pub returns-in-Err : goal.returns-in-Err
returns-in-Err c =
    let esr = c.args.esr in
    let j = judgement esr in
    c.refuse.ensures
    ∙ ap refused (check-same j c.judge.ensures c.in-Err.is)
    ∙ engine_refuses esr j refl (eqb-false _ 0 (check-err j c.judge.ensures c.in-Err.is))
