-- The name, then by whether the number is refused.
use Rattle.buffer.proofs.Appending.{and_then}
use Rattle.refusals.proofs.Cases.{passed-is, refused-is}
use Rattle.listing_reply.specs.Replies.{listing_with_reply}
use Rattle.listing_reply.proofs.put_listing_with_reply.Goals as goal

pub returns-then-is_refused : goal.returns-then-is_refused
unfolding listing_with_reply
returns-then-is_refused c =
    let f = c.args.number.refusal in
    rw (refused-is f c.is_refused.ensures c.if-is_refused.true) (and_then c.put_name-next.ensures c.put_refusal.ensures)

pub returns : goal.returns
unfolding listing_with_reply
returns c =
    let f = c.args.number.refusal in
    rw (passed-is f c.is_refused.ensures c.if-is_refused.false)
    (and_then c.put_name-next.ensures c.put_listed_with.ensures)
