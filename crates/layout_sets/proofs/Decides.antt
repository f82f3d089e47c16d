-- Each promise of this crate decides its answer: it says what the answer is.
use Rattle.promise.specs.Promise.{Decides}
use Rattle.promise.proofs.Laws.{same}
use Rattle.layout_sets.specs.Promises.{Index, IssRow, Outcome}

pub outcome_decides : Decides Outcome
outcome_decides index a b = same

pub index_of_decides : Decides Index
index_of_decides (a, b, c, status) x y = same

pub iss_row_decides : Decides IssRow
iss_row_decides rule a b = same
