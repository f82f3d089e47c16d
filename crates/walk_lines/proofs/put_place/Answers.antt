-- Two appenders, one after the other.
use Rattle.buffer.proofs.Appending.{and_then}
use Rattle.texts.specs.Pool.{bytes}
use Rattle.walk_lines.specs.Lines.{place}
use Rattle.walk_lines.proofs.put_place.Goals as goal

pub returns : goal.returns
unfolding place bytes
returns c = and_then c.put_bytes-next.ensures c.put_number.ensures
