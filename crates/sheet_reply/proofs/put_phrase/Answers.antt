-- Two appenders: the head, and the rest of the line, which a byte counts.
use native.Mathlib.Omega.{arith}
use Rattle.buffer.proofs.Appending.{and_then}
use Rattle.sheets.proofs.Laws.{two-bytes}
use Rattle.sheet_reply.proofs.Laws.{phrase-parts}
use Rattle.sheet_reply.proofs.put_phrase.Goals as goal

pub returns : goal.returns
returns c =
    let code = two-bytes c.to_be_bytes.ensures (omega arith) in
    rw (phrase-parts c.args.code c.args.line.now c.args.start)
    (and_then (rw (code.0, code.1) at c.put_bytes-a.ensures) c.put_bytes.ensures)
