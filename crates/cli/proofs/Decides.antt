-- The promise of this crate decides its answer: it says what the answer is.
use Rattle.promise.specs.Promise.{Decides}
use Rattle.promise.proofs.Laws.{same}
use Rattle.cli.specs.Promises.{Answered}

pub answer_decides : Decides Answered
answer_decides (kind, rest) a b = same
