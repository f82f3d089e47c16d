-- Six appenders, one after the other.
use Rattle.buffer.proofs.Appending.{and_then}
use Rattle.record_lines.specs.Lines.{record_line}
use Rattle.record_lines.proofs.put_record.Goals as goal

pub returns : goal.returns
unfolding record_line
returns c =
    and_then
    (and_then
    (and_then
    (and_then (and_then c.put_depth-next.ensures c.put_text_part-next.ensures) c.put_text_part-next-2.ensures)
    c.put_bits-next.ensures) c.put_text_part-next-3.ensures)
    c.put_mark.ensures
