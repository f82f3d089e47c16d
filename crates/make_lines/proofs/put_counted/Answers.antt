-- The number, then the word by whether it is one.
use Rattle.buffer.proofs.Appending.{and_then}
use Rattle.make_lines.proofs.Laws.{counted-one, counted-more}
use Rattle.make_lines.proofs.put_counted.Goals as goal

pub returns-then-count-eq1 : goal.returns-then-count-eq1
returns-then-count-eq1 c =
    rw (counted-one c.args.count c.args.one.now c.args.more.now c.if-count-eq1.true)
    (and_then c.put_number-next.ensures c.put_bytes.ensures)

pub returns : goal.returns
returns c =
    rw (counted-more c.args.count c.args.one.now c.args.more.now c.if-count-eq1.false)
    (and_then c.put_number-next.ensures c.put_bytes-2.ensures)
