-- Each promise of this crate decides its answer: it says what the answer is.
use Rattle.number_lines.specs.Promises.{Filled, LastTaken, LinesTaken, Started}
use Rattle.promise.proofs.Laws.{same}
use Rattle.promise.specs.Promise.{Decides}

pub Lines-start_decides : Decides Started
Lines-start_decides i a b = same

pub Lines-is_full_decides : Decides Filled
Lines-is_full_decides (l, places) a b = same

pub take_lines_decides : Decides LinesTaken
take_lines_decides (l, part, at, run) a b = same

pub take_last_decides : Decides LastTaken
take_last_decides (l, run) a b = same
