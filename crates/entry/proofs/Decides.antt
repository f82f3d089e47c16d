-- Each promise of this crate decides its answer: it says what the answer is.
use Rattle.entry.specs.Promises.{Body, Read}
use Rattle.promise.proofs.Laws.{same}
use Rattle.promise.specs.Promise.{Decides}

pub read_entry_decides : Decides Read
read_entry_decides s a b = same

pub entry_body_decides : Decides Body
entry_body_decides block a b = same
