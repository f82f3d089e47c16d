-- By whether the value fits the width, which is then at most 64.
use mathlib.Core.Path.{sym, ◌∙◌}
use Rattle.written.proofs.Widths.{no_field, within, width_small}
use Rattle.written.proofs.names_field.Goals as goal

pub overflow_sub-result : goal.overflow_sub-result
overflow_sub-result c = let a = c.args in width_small a.width a.value (sym c.fits.ensures ∙ c.if-fits.true)

pub returns-then-fits : goal.returns-then-fits
returns-then-fits c = let a = c.args in within a.start a.width a.value (sym c.fits.ensures ∙ c.if-fits.true)

pub returns-else-fits : goal.returns-else-fits
returns-else-fits c =
    let a = c.args in
    c.if-fits.false ∙ sym (no_field a.start a.width a.value (sym c.fits.ensures ∙ c.if-fits.false))
