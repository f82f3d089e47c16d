-- Four appenders, one after the other.
use Rattle.buffer.proofs.Appending.{and_then}
use Rattle.record_lines.specs.Lines.{bits_part}
use Rattle.texts.specs.Pool.{bytes}
use Rattle.record_lines.proofs.put_bits.Goals as goal

pub returns : goal.returns
unfolding bits_part bytes
returns c =
    and_then (and_then (and_then c.put_number_part-next.ensures c.put_number_part-next-2.ensures)
    c.put_bytes-next.ensures) c.put_number.ensures
