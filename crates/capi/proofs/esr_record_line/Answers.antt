-- The answer of `listing::record_line`, in C's numbers; the buffer is what it left.
use Rattle.capi.proofs.Laws.{filled_requested}
use Rattle.capi.proofs.esr_record_line.Goals as goal

pub returns : goal.returns
returns c = filled_requested _ _ c.record_line.ensures c.filled_by_text.ensures
