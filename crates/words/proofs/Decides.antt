-- The promise of this crate decides its answer: it says what the answer is.
use Rattle.promise.proofs.Laws.{same}
use Rattle.promise.specs.Promise.{Decides}
use Rattle.words.specs.Promises.{Compared}

pub is_word_decides : Decides Compared
is_word_decides (word, other) a b = same
