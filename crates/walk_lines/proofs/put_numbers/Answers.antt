-- Five appenders, one after the other.
use Rattle.buffer.proofs.Appending.{and_then}
use Rattle.texts.specs.Pool.{bytes}
use Rattle.walk_lines.specs.Lines.{numbers_part}
use Rattle.walk_lines.proofs.put_numbers.Goals as goal

pub returns : goal.returns
unfolding numbers_part bytes
returns c =
    and_then (and_then (and_then (and_then c.put_bytes-next.ensures c.put_number-next.ensures)
    c.put_bytes-next-2.ensures) c.put_number-next-2.ensures) c.put_bytes.ensures
