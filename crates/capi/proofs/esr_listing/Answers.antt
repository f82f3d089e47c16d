-- The answer of `listing::listing`, in C's numbers; the buffer is what it left.
use Rattle.capi.proofs.Laws.{filled_requested}
use Rattle.capi.proofs.esr_listing.Goals as goal

pub returns : goal.returns
returns c = filled_requested _ _ c.listing.ensures c.filled_by_text.ensures
