-- By whether the number is refused.
use Rattle.refusals.proofs.Cases.{passed-is, refused-is}
use Rattle.records_reply.specs.Replies.{number_reply}
use Rattle.texts.specs.Pool.{bytes}
use Rattle.records_reply.proofs.put_number_reply.Goals as goal

pub returns-then-is_refused : goal.returns-then-is_refused
unfolding number_reply bytes
returns-then-is_refused c =
    let f = c.args.number.refusal in
    rw (refused-is f c.is_refused.ensures c.if-is_refused.true, ← c.number.ensures) c.put_number_line.ensures

pub returns : goal.returns
unfolding number_reply bytes
returns c =
    let f = c.args.number.refusal in
    rw (passed-is f c.is_refused.ensures c.if-is_refused.false) c.put_number_line-2.ensures
