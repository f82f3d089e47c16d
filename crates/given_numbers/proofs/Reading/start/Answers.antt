-- The line's own start, and nothing given.
use mathlib.Core.Path.{ap}
use Rattle.given_numbers.specs.Given.{at_start, on_line}
use Rattle.given_numbers.proofs.Reading.start.Goals as goal

pub returns : goal.returns
returns c = ap (on_line at_start) c.start-line.ensures
