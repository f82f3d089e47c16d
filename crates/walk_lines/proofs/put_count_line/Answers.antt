-- Three appenders, one after the other.
use Rattle.buffer.proofs.Appending.{and_then}
use Rattle.texts.specs.Pool.{bytes}
use Rattle.walk_lines.specs.Lines.{count_line}
use Rattle.walk_lines.proofs.put_count_line.Goals as goal

pub returns : goal.returns
unfolding count_line bytes
returns c =
    and_then (and_then c.put_bytes-next.ensures c.put_number-next.ensures) c.put_number_line.ensures
