-- Three appenders, one after the other.
use Rattle.buffer.proofs.Appending.{and_then}
use Rattle.reply_lines.specs.Lines.{number_line}
use Rattle.texts.specs.Pool.{bytes}
use Rattle.reply_lines.proofs.put_number_line.Goals as goal

pub returns : goal.returns
unfolding number_line bytes
returns c = and_then (and_then c.put_bytes-next.ensures c.put_number-next.ensures) c.put_bytes.ensures
