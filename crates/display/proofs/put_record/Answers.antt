-- Four appenders, one after the other.
use Rattle.buffer.proofs.Appending.{and_then}
use Rattle.display.specs.Listings.{record_lines_with}
use Rattle.texts.specs.Pool.{bytes}
use Rattle.display.proofs.put_record.Goals as goal

pub returns : goal.returns
unfolding record_lines_with bytes
returns c =
    and_then c.put_indent-a.ensures
    (and_then c.put_line-b.ensures (and_then c.put_bytes-c.ensures c.put_text_line.ensures))
