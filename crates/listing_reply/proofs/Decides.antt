-- Each promise of this crate decides the next offset and the buffer: it says what both are.
use Rattle.promise.proofs.Laws.{same}
use Rattle.promise.specs.Promise.{Decides}
use Rattle.listing_reply.specs.Promises.{ListedPut, ListingReply, ListingWithReply}

pub put_listed_decides : Decides ListedPut
put_listed_decides (before, at, profile, esr) a b p q = same p.is q.is

pub put_listing_reply_decides : Decides ListingReply
put_listing_reply_decides (before, at, profile, line, number) a b p q = same p.is q.is

pub put_listing_with_reply_decides : Decides ListingWithReply
put_listing_with_reply_decides (before, at, profile, line, number, workshop, standard) a b p q = same p.is q.is
