-- Three appenders, one after the other.
use Rattle.buffer.proofs.Appending.{and_then}
use Rattle.make_lines.specs.Help.{place_part}
use Rattle.texts.specs.Pool.{bytes}
use Rattle.make_lines.proofs.put_place.Goals as goal

pub returns : goal.returns
unfolding place_part bytes
returns c = and_then (and_then c.put_bytes-next.ensures c.put_number-next.ensures) c.put_bytes.ensures
