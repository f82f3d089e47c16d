-- A line that ends with the number.
use Rattle.make_reply.specs.Replies.{too_few}
use Rattle.texts.specs.Pool.{bytes}
use Rattle.make_reply.proofs.put_too_few.Goals as goal

pub returns : goal.returns
unfolding too_few bytes
returns c = c.put_number_line.ensures
