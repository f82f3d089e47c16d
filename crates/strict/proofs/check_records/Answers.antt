-- The invariant: what the records from the index on refuse is what all of them do.
use mathlib.Core.Path.{◌≡◌, sym, ap, ◌∙◌}
use Prim.Native.Nat.{ℕ}
use native.Mathlib.Omega.{arith}
use lib.ListN.{length, drop}
use Rattle.std.specs.Prelude.{Err}
use Rattle.std.proofs.lemmas.Result.{err_from_is_err_and}
use Rattle.refusals.proofs.Cases.{check-err, check-ok}
use Rattle.refusals.specs.Refusals.{checked}
use Rattle.strict.specs.Strict.{first_refusal}
use Rattle.strict.proofs.Laws.{record_fails, record_passes, records-done}
use Rattle.strict.proofs.check_records.Goals as goal

pub returns-in_err-check : goal.returns-in_err-check
returns-in_err-check c =
    let r = c.record_refusal in
    let l = c.loop-field in
    let e = err_from_is_err_and c.from_residual.result c.from_residual.ensures.1 in
    let first =
    l.invariant
    ∙ record_fails c.args.nested c.args.records.now l.field-index c.loop-field-test.true _ r.ensures
    (check-err r.result c.check.ensures c.in_err-check.was) in
    e.1 ∙ ap Err e.2 ∙ sym c.in_err-check.was ∙ c.check.ensures ∙ ap checked (sym first)

pub loop-field-preserved : goal.loop-field-preserved
loop-field-preserved c =
    let r = c.record_refusal in
    let l = c.loop-field in
    l.invariant
    ∙ record_passes c.args.nested c.args.records.now l.field-index c.loop-field-test.true _ r.ensures
    (check-ok r.result c.check.ensures c.in_ok-check.was)

pub returns : goal.returns
returns c =
    let xs = c.args.records.now in
    let done : c.loop-field.field-index ≡ length xs = omega arith in
    sym (ap checked (c.loop-field.invariant ∙ ap (λ (i : ℕ). first_refusal c.args.nested (drop i xs)) done
    ∙ records-done c.args.nested xs))
