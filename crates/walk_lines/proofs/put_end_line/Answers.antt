-- By whether a bad entry ended the walk.
use Rattle.walk_lines.specs.Lines.{end_line}
use Rattle.walk_lines.proofs.put_end_line.Goals as goal

pub returns-in-Some : goal.returns-in-Some
unfolding end_line
returns-in-Some c = rw c.in-Some.is c.put_bad_end.ensures

pub returns-in-None : goal.returns-in-None
unfolding end_line
returns-in-None c = rw c.in-None.is c.put_sound_end.ensures
