-- The field fits or is refused; then the text is measured; then it is written, or the buffer is too short.
use native.Mathlib.Omega.{arith}
use mathlib.Core.Path.{refl, sym, ◌∙◌}
use Rattle.written.proofs.Answers.{string_no, string_yes, string_small}
use Rattle.written.proofs.Kept.{exit, by-refusal, by_shortness, by_writing}
use Rattle.written.proofs.Widths.{width_small}
use Rattle.written.proofs.field_string.Goals as goal

pub returns-then-not-fits : goal.returns-then-not-fits
returns-then-not-fits c =
    by-refusal (string_no c.args.form _ _ (sym c.fits.ensures ∙ c.if-not-fits.true)) c.refused.ensures

pub overflow_cast-narrow : goal.overflow_cast-narrow
overflow_cast-narrow c = omega (arith, width_small _ _ (sym c.fits.ensures ∙ c.if-not-fits.false))

pub returns-in_err-bytes : goal.returns-in_err-bytes
returns-in_err-bytes c =
    let a = c.args in
    let yes = sym c.fits.ensures ∙ c.if-not-fits.false in
    by_shortness (string_yes a.form _ _ yes) (string_small a.form _ _ yes) c.put_string.ensures c.room_for.ensures
    c.in_err-bytes.was (exit c.from_residual.ensures)

pub returns : goal.returns
returns c =
    let a = c.args in
    let yes = sym c.fits.ensures ∙ c.if-not-fits.false in
    by_writing (string_yes a.form _ _ yes) (string_small a.form _ _ yes) c.put_string.ensures c.room_for.ensures
    c.in_ok-bytes.was c.put_string-2.ensures refl
