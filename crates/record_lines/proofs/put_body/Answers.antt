-- Three appenders, one after the other.
use Rattle.buffer.proofs.Appending.{and_then}
use Rattle.record_lines.specs.Lines.{body_line}
use Rattle.texts.specs.Pool.{bytes}
use Rattle.record_lines.proofs.put_body.Goals as goal

pub returns : goal.returns
unfolding body_line bytes
returns c = and_then (and_then c.put_bytes-next.ensures c.put_each-next.ensures) c.put_bytes.ensures
