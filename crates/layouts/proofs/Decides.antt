-- The promise of this crate decides its answer: it says what the answer is.
use Rattle.promise.specs.Promise.{Decides}
use Rattle.promise.proofs.Laws.{same}
use Rattle.layouts.specs.Promises.{LayoutOf}

pub layout_of_decides : Decides LayoutOf
layout_of_decides (number, iss) a b = same
