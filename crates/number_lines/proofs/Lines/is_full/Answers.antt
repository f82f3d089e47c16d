-- The lines that held none fill what the numbers leave of the run.
use Rattle.number_lines.proofs.Laws.{full_of_both}
use Rattle.number_lines.proofs.Lines.is_full.Goals as goal

pub returns : goal.returns
returns c = rw c.saturating_sub.ensures (full_of_both _ _ _)
