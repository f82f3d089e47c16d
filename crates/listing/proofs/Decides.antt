-- Each promise of this crate decides its answer and the buffer: it says what both are.
use Rattle.promise.specs.Promise.{Decides}
use Rattle.written.proofs.Decides.{only}
use Rattle.listing.specs.Promises.{Listing, ListingWith, RecordLine}

pub record_line_decides : Decides RecordLine
record_line_decides (esr, index, before) = only _ before

pub listing_decides : Decides Listing
listing_decides (esr, before) = only _ before

pub listing_with_decides : Decides ListingWith
listing_with_decides (esr, workshop, standard, before) = only _ before
