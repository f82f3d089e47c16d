-- The number, and the word for leaves.
use Rattle.make_lines.specs.Help.{leaves_part}
use Rattle.texts.specs.Pool.{bytes}
use Rattle.make_lines.proofs.put_leaf_count.Goals as goal

pub returns : goal.returns
unfolding leaves_part bytes
returns c = c.put_counted.ensures
