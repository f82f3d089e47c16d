-- Each promise of this crate decides the next offset and the buffer: it says what both are.
use Rattle.promise.proofs.Laws.{same}
use Rattle.promise.specs.Promise.{Decides}
use Rattle.display.specs.Promises.{LinePut, ListingPut, ListingWithPut}

pub put_line_decides : Decides LinePut
put_line_decides (before, at, lent, starting, item) a b p q = same p.is q.is

pub put_listing_decides : Decides ListingPut
put_listing_decides (before, at, lent, starting, records) a b p q = same p.is q.is

pub put_listing_with_decides : Decides ListingWithPut
put_listing_with_decides (before, at, lent, starting, workshop, standard, records) a b p q = same p.is q.is
