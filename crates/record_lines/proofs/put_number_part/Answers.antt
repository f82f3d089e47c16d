-- Two appenders, one after the other.
use Rattle.buffer.proofs.Appending.{and_then}
use Rattle.record_lines.specs.Lines.{number_part}
use Rattle.texts.specs.Pool.{bytes}
use Rattle.record_lines.proofs.put_number_part.Goals as goal

pub returns : goal.returns
unfolding number_part bytes
returns c = and_then c.put_bytes-next.ensures c.put_number.ensures
