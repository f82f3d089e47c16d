-- Six appenders, one after the other.
use Rattle.buffer.proofs.Appending.{and_then}
use Rattle.make_reply.specs.Replies.{bad_number}
use Rattle.texts.specs.Pool.{bytes}
use Rattle.make_reply.proofs.put_bad_number.Goals as goal

pub returns : goal.returns
unfolding bad_number bytes
returns c =
    and_then (and_then
    (and_then (and_then (and_then c.put_refused-next.ensures c.put_bytes-next.ensures) c.put_number-next.ensures)
    c.put_bytes-next-2.ensures) c.put_why-next.ensures) c.put_bytes.ensures
