-- Each promise of this crate decides its answer: it says what the answer is.
use Rattle.number.specs.Promises.{Finished, FinishedBefore, Opened, Parsed, Started, Stepped, TookNumber}
use Rattle.promise.proofs.Laws.{same}
use Rattle.promise.specs.Promise.{Decides}

pub NumberState-start_decides : Decides Started
NumberState-start_decides i a b = same

pub NumberState-step_decides : Decides Stepped
NumberState-step_decides (st, b) a b' = same

pub NumberState-is_open_decides : Decides Opened
NumberState-is_open_decides st a b = same

pub NumberState-finish_decides : Decides Finished
NumberState-finish_decides st a b = same

pub NumberState-finish_before_decides : Decides FinishedBefore
NumberState-finish_before_decides st a b = same

pub read_number_decides : Decides TookNumber
read_number_decides s a b = same

pub parse_number_decides : Decides Parsed
parse_number_decides s a b = same
