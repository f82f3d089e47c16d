-- The promise of this crate decides the answer and the run: it says what both are.
use Rattle.promise.proofs.Laws.{same}
use Rattle.promise.specs.Promise.{Decides}
use Rattle.walk.specs.Promises.{BlockWalked}

pub walk_decides : Decides BlockWalked
walk_decides (profile, block, before) a b = same
