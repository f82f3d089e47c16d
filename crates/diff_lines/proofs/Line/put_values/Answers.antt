-- Seven appenders, one after the other.
use Rattle.buffer.proofs.Appending.{and_then}
use Rattle.texts.specs.Pool.{bytes}
use Rattle.diff_lines.specs.Lines.{values_line}
use Rattle.diff_lines.proofs.Line.put_values.Goals as goal

pub returns : goal.returns
unfolding values_line bytes
returns c =
    and_then (and_then (and_then (and_then (and_then (and_then c.put_front-next.ensures c.put_code-next.ensures)
    c.put_bytes-next.ensures) c.put_field-next.ensures) c.put_bytes-next-2.ensures) c.put_field-next-2.ensures)
    c.put_bytes.ensures
