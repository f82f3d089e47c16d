-- Each promise of this crate decides its answer: it says what the answer is.
use Rattle.line_reader.specs.Promises.{LineEnded, NumberOfLine, RestAsked, TookLine}
use Rattle.promise.proofs.Laws.{same}
use Rattle.promise.specs.Promise.{Decides}

pub take_line_decides : Decides TookLine
take_line_decides (st, s, from) a b = same

pub line_end_decides : Decides LineEnded
line_end_decides (s, from) a b = same

pub line_number_decides : Decides NumberOfLine
line_number_decides (st, rest) a b = same

pub rest_asked_decides : Decides RestAsked
rest_asked_decides option a b = same
