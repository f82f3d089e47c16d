-- The answer of `sheets::standard_sheet`, in C's numbers; the buffer is what it left.
use Rattle.capi.proofs.Laws.{filled_requested}
use Rattle.capi.proofs.esr_standard_sheet.Goals as goal

pub returns : goal.returns
returns c = filled_requested _ _ c.standard_sheet.ensures c.filled_by_text.ensures
