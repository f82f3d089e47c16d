-- The promise of this crate decides its answer: it says what the answer is.
use Rattle.promise.specs.Promise.{Decides}
use Rattle.promise.proofs.Laws.{same}
use Rattle.reading.specs.Promises.{SumBack}

pub sum_back_decides : Decides SumBack
sum_back_decides records a b = same
