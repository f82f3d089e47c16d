-- Seven appenders, one after the other.
use Rattle.buffer.proofs.Appending.{and_then}
use Rattle.reply_lines.specs.Lines.{carried_line}
use Rattle.texts.specs.Pool.{bytes}
use Rattle.reply_lines.proofs.put_carried.Goals as goal

pub returns : goal.returns
unfolding carried_line bytes
returns c =
    and_then (and_then
    (and_then
    (and_then (and_then (and_then c.put_refused-next.ensures c.put_bytes-next.ensures) c.put_number-next.ensures)
    c.put_field_part-next.ensures) c.put_bytes-next-2.ensures) c.put_why-next.ensures) c.put_bytes.ensures
