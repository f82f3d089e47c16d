-- A line that ends with a number.
use Rattle.texts.specs.Pool.{bytes}
use Rattle.turn_reply.specs.Turns.{not_both}
use Rattle.turn_reply.proofs.put_not_both.Goals as goal

pub returns : goal.returns
unfolding not_both bytes
returns c = c.put_number_line.ensures
