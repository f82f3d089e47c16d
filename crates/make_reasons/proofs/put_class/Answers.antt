-- Two appenders, one after the other.
use Rattle.buffer.proofs.Appending.{and_then}
use Rattle.make_reasons.specs.Reasons.{class_part}
use Rattle.texts.specs.Pool.{bytes}
use Rattle.make_reasons.proofs.put_class.Goals as goal

pub returns : goal.returns
unfolding class_part bytes
returns c = and_then c.put_bytes-next.ensures c.put_number.ensures
