-- By whether the width is one; that the value is below 2^width is shown by two shifts.
use borrow.Author.Rules.{rules}
use Rattle.written.proofs.Widths.{by_shifts}
use Rattle.written.specs.Requested.{fits}
use Rattle.written.proofs.fits.Goals as goal

pub returns-then-contains : goal.returns-then-contains
returns-then-contains c = let a = c.args in by_shifts a.width a.value (search rules) (search rules)

pub returns-else-contains : goal.returns-else-contains
unfolding fits
returns-else-contains c = search rules
