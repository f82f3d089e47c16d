-- By what the ordinary decoder answers, and then by what the records refuse.
use mathlib.Core.Path.{◌≡◌, sym, ap, subst, ◌∙◌}
use lib.ListN.{length}
use Rattle.refusals.proofs.Cases.{check-err, check-ok, check-same, passed-is, refused-is}
use Rattle.records.specs.Sets.{list_of}
use Rattle.records.specs.declared.Records.{Records}
use Rattle.records.proofs.Laws.{long_as}
use Rattle.esr.specs.Decode.{refused}
use Rattle.esr.proofs.Laws.{Roomy, answer-room}
use Rattle.strict.specs.Strict.{first_refusal}
use Rattle.strict.proofs.Laws.{ordinarily_refused, strictly-refused, strictly-accepted}
use borrow.Author.Rules.{rules}
use Rattle.strict.proofs.decode_strict.Goals as goal

pub returns-then-is_refused : goal.returns-then-is_refused
returns-then-is_refused c =
    let a = c.decode-answer in
    ordinarily_refused c.args.nested c.args.esr a.result a.ensures
    (refused-is a.result.refusal c.is_refused.ensures c.if-is_refused.true)

pub shared_ref_as_front-check_records : goal.shared_ref_as_front-check_records
shared_ref_as_front-check_records c =
    let long : length c.decode-answer.result.records.items ≡ 19 = search (rules, long_as) in
    subst Roomy (sym c.decode-answer.ensures) (answer-room c.args.esr) long

pub returns-in-Ok : goal.returns-in-Ok
returns-in-Ok c =
    let a = c.decode-answer in
    strictly-accepted c.args.nested c.args.esr a.result a.ensures
    (passed-is a.result.refusal c.is_refused.ensures c.if-is_refused.false)
    (check-ok (first_refusal c.args.nested (list_of a.result.records)) c.check_records.ensures c.in-Ok.is)

pub returns-in-Err : goal.returns-in-Err
unfolding refused
returns-in-Err c =
    let a = c.decode-answer in
    let f = first_refusal c.args.nested (list_of a.result.records) in
    ap (λ (s : Records). record { refusal = c.in-Err.refusal; records = s }) c.empty.ensures
    ∙ strictly-refused c.args.nested c.args.esr a.result a.ensures
    (passed-is a.result.refusal c.is_refused.ensures c.if-is_refused.false)
    (check-same f c.check_records.ensures c.in-Err.is) (check-err f c.check_records.ensures c.in-Err.is)
