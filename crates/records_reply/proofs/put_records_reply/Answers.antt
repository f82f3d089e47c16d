-- By whether the number is refused; a value has its line first.
use Rattle.buffer.proofs.Appending.{and_then}
use Rattle.refusals.proofs.Cases.{passed-is, refused-is}
use Rattle.records_reply.specs.Replies.{records_reply}
use Rattle.texts.specs.Pool.{bytes}
use Rattle.records_reply.proofs.put_records_reply.Goals as goal

pub returns-then-is_refused : goal.returns-then-is_refused
unfolding records_reply
returns-then-is_refused c =
    rw (refused-is c.args.number.refusal c.is_refused.ensures c.if-is_refused.true) c.put_number_reply.ensures

pub returns : goal.returns
unfolding records_reply bytes
returns c =
    let f = c.args.number.refusal in
    rw (passed-is f c.is_refused.ensures c.if-is_refused.false)
    (and_then c.put_number_line-next.ensures c.put_decoded.ensures)
