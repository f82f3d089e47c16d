-- By whether the value is refused.
use Rattle.buffer.proofs.Appending.{and_then}
use Rattle.refusals.proofs.Cases.{refused-is}
use Rattle.texts.specs.Pool.{bytes}
use Rattle.diff_reply.specs.Replies.{refused_part}
use Rattle.diff_reply.proofs.put_refused_part.Goals as goal

pub returns : goal.returns
unfolding refused_part bytes
returns c =
    let d = c.decode-answer in
    rw (← d.ensures, refused-is d.result.refusal c.is_refused.ensures c.if-not-is_refused.false)
    (and_then c.put_number_line-next.ensures c.put_refusal.ensures)
