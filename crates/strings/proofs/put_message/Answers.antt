-- Five appenders, one after the other.
use Rattle.buffer.proofs.Appending.{and_then}
use Rattle.strings.specs.Messages.{message_in}
use Rattle.texts.specs.Pool.{bytes}
use Rattle.strings.proofs.put_message.Goals as goal

pub returns : goal.returns
unfolding message_in bytes
returns c =
    rw (← c.text_code-front.ensures, ← c.text_code-end.ensures)
    (and_then c.put_text-a.ensures
    (and_then c.put_bytes-b.ensures
    (and_then c.put_number-c.ensures (and_then c.put_text-d.ensures c.put_bits.ensures))))
