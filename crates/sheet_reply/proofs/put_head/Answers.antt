-- By whether a sheet can count the phrases.
use native.Mathlib.Omega.{arith}
use Rattle.buffer.proofs.Appending.{none}
use Rattle.sheets.proofs.Laws.{two-bytes}
use Rattle.sheet_reply.proofs.Laws.{no_head, a_head}
use Rattle.sheet_reply.proofs.put_head.Goals as goal

pub returns-then-count-gt-PHRASES_MAX : goal.returns-then-count-gt-PHRASES_MAX
returns-then-count-gt-PHRASES_MAX c = rw (no_head c.if-count-gt-PHRASES_MAX.true) (none (omega arith))

pub returns : goal.returns
returns c =
    let following = two-bytes c.to_be_bytes.ensures (omega arith) in
    rw (a_head c.if-count-gt-PHRASES_MAX.false) (rw (following.0, following.1) at c.put_bytes.ensures)
