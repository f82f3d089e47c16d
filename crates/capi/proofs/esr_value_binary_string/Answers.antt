-- The answer of `written::value_binary_string`, in C's numbers; the buffer is what it left.
use Rattle.capi.proofs.Laws.{filled_requested}
use Rattle.capi.proofs.esr_value_binary_string.Goals as goal

pub returns : goal.returns
returns c = filled_requested _ _ c.value_binary_string.ensures c.filled_by_text.ensures
