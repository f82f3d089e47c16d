-- Two appenders, one after the other.
use Rattle.buffer.proofs.Appending.{and_then}
use Rattle.make_lines.proofs.put_end.Goals as goal

pub returns : goal.returns
returns c = and_then c.put_bytes-next.ensures c.put_number.ensures
