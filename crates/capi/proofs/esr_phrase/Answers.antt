-- By whether the sheets are refused; past that it is where the code is found.
use mathlib.Core.Bool.{true, false}
use mathlib.Core.Path.{◌≡◌, ap, ◌∙◌}
use borrow.Author.Tests.{eqb-true}
use Rattle.std.specs.Prelude.{Option, None}
use Rattle.capi.specs.Answers.{phrase_answer, phrase_of}
use Rattle.phrases.specs.Sheets.{both_sound, judged_both}
use Rattle.phrases.specs.declared.Found.{Found}
use Rattle.refusals.proofs.Cases.{check-ok, check-err, check-same}
use Rattle.refusals.specs.Refusals.{bare, no_refusal}
use Rattle.refusals.proofs.Theorems.{one-reason}
use Rattle.refusals.specs.declared.Reason.TheVariants.{None as Sound}
use Rattle.refusals.specs.declared.Refusal.{Refusal}
use Rattle.capi.proofs.esr_phrase.Goals as goal

pub returns-in-Ok : goal.returns-in-Ok
unfolding phrase_of
returns-in-Ok c =
    let bad = bare (judged_both c.args.workshop.now c.args.standard.now) in
    let yes : both_sound c.args.workshop.now c.args.standard.now ≡ true =
    check-ok bad c.sheets_refusal.ensures c.in-Ok.is in
    let none : judged_both c.args.workshop.now c.args.standard.now ≡ Sound = one-reason _ Sound (eqb-true _ 0 yes) in
    rw none (c.phrase_answer.ensures ∙ ap (λ (p : Option Found). phrase_answer no_refusal p) c.find.ensures)

pub returns-in-Err : goal.returns-in-Err
unfolding phrase_of
returns-in-Err c =
    let bad = bare (judged_both c.args.workshop.now c.args.standard.now) in
    let told = c.sheets_refusal.ensures in
    let no : both_sound c.args.workshop.now c.args.standard.now ≡ false = check-err bad told c.in-Err.is in
    rw no (c.phrase_answer-in-Err.ensures ∙ ap (λ (f : Refusal). phrase_answer f None) (check-same bad told c.in-Err.is))
