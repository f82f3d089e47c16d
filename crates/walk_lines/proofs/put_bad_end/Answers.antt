-- Five appenders, one after the other.
use Rattle.buffer.proofs.Appending.{and_then}
use Rattle.texts.specs.Pool.{bytes}
use Rattle.walk_lines.specs.Lines.{bad_end}
use Rattle.walk_lines.proofs.put_bad_end.Goals as goal

pub returns : goal.returns
unfolding bad_end bytes
returns c =
    and_then (and_then (and_then (and_then c.put_refused-next.ensures c.put_place-next.ensures)
    c.put_bytes-next.ensures) c.put_why-next.ensures) c.put_bytes.ensures
