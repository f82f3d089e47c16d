-- Five appenders, one after the other.
use Rattle.buffer.proofs.Appending.{and_then}
use Rattle.make_reasons.specs.Reasons.{wide_leaf}
use Rattle.texts.specs.Pool.{bytes}
use Rattle.make_reasons.proofs.put_wide_leaf.Goals as goal

pub returns : goal.returns
unfolding wide_leaf bytes
returns c =
    and_then
    (and_then
    (and_then
    (and_then c.put_bytes-next.ensures c.put_number-next.ensures)
    c.put_bytes-next-2.ensures) c.put_code-next.ensures) c.put_wider.ensures
