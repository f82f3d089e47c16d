-- The answer of `listing::listing_with`, in C's numbers; the buffer is what it left.
use Rattle.capi.proofs.Laws.{filled_requested}
use Rattle.capi.proofs.esr_listing_with.Goals as goal

pub returns : goal.returns
returns c = filled_requested _ _ c.listing_with.ensures c.filled_by_text.ensures
