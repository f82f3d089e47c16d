-- By the test of the width.
use Rattle.leaf_values.proofs.Laws.{room_is}
use Rattle.leaf_values.proofs.room_of.Goals as goal

pub returns : goal.returns
returns c = rw c.min.ensures (room_is c.args.width)
