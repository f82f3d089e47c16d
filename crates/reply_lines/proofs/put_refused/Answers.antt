-- Two appenders, one after the other; the number is that of the refusal.
use Rattle.buffer.proofs.Appending.{and_then}
use Rattle.reply_lines.specs.Lines.{refused_by}
use Rattle.texts.specs.Pool.{bytes}
use Rattle.reply_lines.proofs.put_refused.Goals as goal

pub returns : goal.returns
unfolding refused_by bytes
returns c = rw (← c.number.ensures) (and_then c.put_bytes-next.ensures c.put_number.ensures)
