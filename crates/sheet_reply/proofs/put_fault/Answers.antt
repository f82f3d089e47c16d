-- Four appenders, one after the other.
use Rattle.buffer.proofs.Appending.{and_then}
use Rattle.sheet_reply.specs.Replies.{fault_line}
use Rattle.texts.specs.Pool.{bytes}
use Rattle.sheet_reply.proofs.put_fault.Goals as goal

pub returns : goal.returns
unfolding fault_line bytes
returns c =
    and_then c.put_bytes-a.ensures (and_then c.put_number-b.ensures (and_then c.put_bytes-c.ensures c.put_words.ensures))
