-- Each promise of this crate decides its answer: it says what the answer is.
use Rattle.named_fields.specs.Promises.{IsNamed, SameRows}
use Rattle.promise.proofs.Laws.{same}
use Rattle.promise.specs.Promise.{Decides}

pub is_named_decides : Decides IsNamed
is_named_decides (class, start, width) a b = same

pub same_rows_decides : Decides SameRows
same_rows_decides (first, second) a b = same
