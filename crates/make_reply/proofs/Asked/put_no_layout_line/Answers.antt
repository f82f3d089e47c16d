-- Four appenders, one after the other, of the class's own layout.
use Rattle.buffer.proofs.Appending.{and_then}
use Rattle.make_reply.specs.Replies.{reason_line}
use Rattle.texts.specs.Pool.{bytes}
use Rattle.make_reply.proofs.Asked.put_no_layout_line.Goals as goal

pub returns : goal.returns
unfolding reason_line bytes
returns c =
    rw (← c.layout_number-number.ensures)
    (and_then (and_then (and_then c.put_refused-next.ensures c.put_bytes-next.ensures) c.put_no_layout-next.ensures)
    c.put_bytes.ensures)
