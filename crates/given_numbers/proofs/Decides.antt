-- Each promise of this crate decides its answer: it says what the answer is.
use Rattle.given_numbers.specs.Promises.{LastTaken, PartTaken, Started}
use Rattle.promise.proofs.Laws.{same}
use Rattle.promise.specs.Promise.{Decides}

pub Reading-start_decides : Decides Started
Reading-start_decides i a b = same

pub take_part_decides : Decides PartTaken
take_part_decides (from, part, kept) a b = same

pub take_last_decides : Decides LastTaken
take_last_decides (read, kept) a b = same
