-- Three appenders, one after the other; the last by whether the walk went to the end.
use Rattle.buffer.proofs.Appending.{and_then}
use borrow.Author.Tests.{eq-eqb, ne_eqb}
use Rattle.texts.specs.Pool.{bytes}
use Rattle.walk_lines.specs.Lines.{sound_end}
use Rattle.walk_lines.proofs.put_sound_end.Goals as goal

pub returns-then-offset-length : goal.returns-then-offset-length
unfolding sound_end bytes
returns-then-offset-length c =
    rw (eq-eqb _ _ c.if-offset-length.true) (and_then (and_then c.put_bytes-next.ensures c.put_place-next.ensures)
    c.put_bytes.ensures)

pub returns : goal.returns
unfolding sound_end bytes
returns c =
    rw (ne_eqb _ _ c.if-offset-length.false) (and_then (and_then c.put_bytes-next.ensures c.put_place-next.ensures)
    c.put_bytes-2.ensures)
