-- The line's own start, and no lines.
use mathlib.Core.Path.{ap}
use Rattle.number_lines.specs.Runs.{no_lines, on_line}
use Rattle.number_lines.proofs.Lines.start.Goals as goal

pub returns : goal.returns
returns c = ap (on_line no_lines) c.start.ensures
