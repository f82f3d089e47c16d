-- By whether the workshop's sheet is refused.
use mathlib.Core.Bool.{true, false}
use mathlib.Core.Path.{◌≡◌, sym, ap, ◌∙◌}
use Rattle.std.specs.Prelude.{Err}
use Rattle.std.proofs.lemmas.Result.{err_from_is_err_and}
use Rattle.phrases.specs.Sheets.{judged, judged_both}
use Rattle.refusals.proofs.Cases.{check-ok, check-err}
use Rattle.refusals.specs.Refusals.{bare, passed}
use Rattle.phrases.proofs.sheets_refusal.Goals as goal

pub returns-in_err-sheet_refusal : goal.returns-in_err-sheet_refusal
unfolding judged_both
returns-in_err-sheet_refusal c =
    let r = c.sheet_refusal.ensures in
    let was = c.in_err-sheet_refusal.was in
    let p = err_from_is_err_and c.from_residual.result c.from_residual.ensures.1 in
    let no : passed (bare (judged c.args.workshop.now)) ≡ false = check-err _ r was in
    rw no (p.1 ∙ ap Err p.2 ∙ sym was ∙ r)

pub returns : goal.returns
unfolding judged_both
returns c =
    let yes : passed (bare (judged c.args.workshop.now)) ≡ true =
    check-ok _ c.sheet_refusal.ensures c.in_ok-sheet_refusal.was in
    rw yes c.sheet_refusal-2.ensures
