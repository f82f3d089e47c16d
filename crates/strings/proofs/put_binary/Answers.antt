-- Two appenders, one after the other.
use Rattle.buffer.proofs.Appending.{and_then}
use Rattle.strings.specs.Fields.{binary_text}
use Rattle.texts.specs.Pool.{bytes}
use Rattle.strings.proofs.put_binary.Goals as goal

pub returns : goal.returns
unfolding binary_text bytes
returns c = and_then c.put_bytes-next.ensures c.put_digits.ensures
