-- The promise of this crate decides its answer: it says what the answer is.
use Rattle.promise.proofs.Laws.{same}
use Rattle.promise.specs.Promise.{Decides}
use Rattle.registers.specs.Promises.{Placed}

pub place_decides : Decides Placed
place_decides key a b = same
