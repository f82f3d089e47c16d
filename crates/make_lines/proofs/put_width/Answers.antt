-- The number, and the word for bits.
use Rattle.make_lines.specs.Help.{width_part}
use Rattle.texts.specs.Pool.{bytes}
use Rattle.make_lines.proofs.put_width.Goals as goal

pub returns : goal.returns
unfolding width_part bytes
returns c = c.put_counted.ensures
