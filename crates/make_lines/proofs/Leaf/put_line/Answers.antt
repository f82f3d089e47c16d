-- Six appenders, one after the other, of the leaf at the index.
use Rattle.buffer.proofs.Appending.{and_then}
use Rattle.make_lines.specs.Help.{leaf_line}
use Rattle.texts.specs.Pool.{bytes}
use Rattle.make_lines.proofs.Leaf.put_line.Goals as goal

pub returns : goal.returns
unfolding leaf_line bytes
returns c =
    rw (← c.leaf_row-row.ensures)
    (and_then
    (and_then
    (and_then (and_then (and_then c.put_place-next.ensures c.put_name-next.ensures) c.put_bytes-next.ensures)
    c.put_width-next.ensures) c.put_values-next.ensures) c.put_bytes.ensures)
