-- Three appenders, one after the other.
use Rattle.buffer.proofs.Appending.{and_then}
use Rattle.display.specs.Listings.{line_text}
use Rattle.texts.specs.Pool.{bytes}
use Rattle.display.proofs.put_line.Goals as goal

pub returns : goal.returns
unfolding line_text bytes
returns c = and_then c.put_text-a.ensures (and_then c.put_bytes-b.ensures c.put_field.ensures)
