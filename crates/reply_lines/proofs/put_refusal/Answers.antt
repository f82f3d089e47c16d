-- Four appenders, one after the other.
use Rattle.buffer.proofs.Appending.{and_then}
use Rattle.reply_lines.specs.Lines.{refusal_line}
use Rattle.texts.specs.Pool.{bytes}
use Rattle.reply_lines.proofs.put_refusal.Goals as goal

pub returns : goal.returns
unfolding refusal_line bytes
returns c =
    and_then (and_then (and_then c.put_refused-next.ensures c.put_bytes-next.ensures) c.put_why-next.ensures)
    c.put_bytes.ensures
