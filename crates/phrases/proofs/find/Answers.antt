-- By which of the two sheets has the code.
use mathlib.Core.Path.{sym, ap, ◌∙◌}
use Rattle.std.specs.Prelude.{Some}
use Rattle.phrases.specs.Sheets.{find_in}
use Rattle.phrases.proofs.find.Goals as goal

pub returns-in-Some : goal.returns-in-Some
unfolding find_in
returns-in-Some c = rw (sym c.look.ensures ∙ c.in-Some.is) (ap Some c.of.ensures)

pub returns-in_err-place : goal.returns-in_err-place
unfolding find_in
returns-in_err-place c =
    rw (sym c.look.ensures ∙ c.in_default.is, sym c.look-2.ensures ∙ c.in_err-place.was) c.from_residual.ensures

pub returns : goal.returns
unfolding find_in
returns c =
    rw (sym c.look.ensures ∙ c.in_default.is, sym c.look-2.ensures ∙ c.in_ok-place.was) (ap Some c.of-2.ensures)
