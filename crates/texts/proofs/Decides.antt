-- Each promise of this crate decides its answer: it says what the answer is.
use Rattle.promise.specs.Promise.{Decides}
use Rattle.promise.proofs.Laws.{same}
use Rattle.texts.specs.Promises.{Pool, Starts}

pub pool_bytes_decides : Decides Pool
pool_bytes_decides i a b = same

pub text_starts_decides : Decides Starts
text_starts_decides i a b = same
