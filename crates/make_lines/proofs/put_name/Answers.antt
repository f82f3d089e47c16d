-- By whether there is a long name.
use mathlib.Core.List.{append-nil}
use Rattle.buffer.proofs.Appending.{and_then}
use Rattle.make_lines.proofs.Laws.{name-short, name-long}
use Rattle.texts.specs.Pool.{bytes, bytes_at}
use Rattle.make_lines.proofs.put_name.Goals as goal

pub returns-then-row-eq0 : goal.returns-then-row-eq0
returns-then-row-eq0 c =
    rw (name-short c.args.row c.if-row-eq0.true, append-nil (bytes_at c.args.row.name)) c.put_code-next.ensures

pub returns : goal.returns
unfolding bytes
returns c =
    rw (name-long c.args.row c.if-row-eq0.false)
    (and_then (and_then c.put_code-next.ensures c.put_bytes-next.ensures) c.put_code.ensures)
