-- What the checks answer, and where they pass, the table's records.
use mathlib.Core.Path.{refl, ap, ◌∙◌}
use borrow.Author.Tests.{eqb-true, eqb-false}
use Rattle.records.specs.declared.Records.{Records}
use Rattle.refusals.specs.Refusals.{no_refusal}
use Rattle.refusals.proofs.Cases.{check-ok, check-err, check-same}
use Rattle.layouts.specs.Layouts.{table_of}
use Rattle.esr.specs.Decode.{refused, accepted, failure_for, table_answer}
use Rattle.esr.proofs.Laws.{read-fails, read-passes}
use Rattle.esr.proofs.read.Goals as goal

pub returns-in-Ok : goal.returns-in-Ok
unfolding accepted
returns-in-Ok c =
    let a = c.args in
    let iss = c.field-iss.result in
    let f = failure_for (table_of a.number) iss in
    ap (λ (s : Records). record { refusal = no_refusal; records = s }) c.all_records.ensures
    ∙ read-passes (table_of a.number) a.esr iss f refl (eqb-true _ 0 (check-ok f c.first_failure.ensures c.in-Ok.is))
    ∙ ap (table_answer (table_of a.number) a.esr) c.field-iss.ensures

pub returns-in-Err : goal.returns-in-Err
returns-in-Err c =
    let a = c.args in
    let iss = c.field-iss.result in
    let f = failure_for (table_of a.number) iss in
    c.refuse.ensures
    ∙ ap refused (check-same f c.first_failure.ensures c.in-Err.is)
    ∙ read-fails (table_of a.number) a.esr iss f refl (eqb-false _ 0 (check-err f c.first_failure.ensures c.in-Err.is))
    ∙ ap (table_answer (table_of a.number) a.esr) c.field-iss.ensures
