-- Each promise of this crate decides its answer: it says what the answer is, or what the buffer holds.
use Rattle.promise.proofs.Laws.{same}
use Rattle.promise.specs.Promise.{Decides}
use Rattle.sheet_lines.specs.Promises.{CodeLinePut, LineTaken}

pub put_code_line_decides : Decides CodeLinePut
put_code_line_decides (before, at, code) a b p q = same p.is q.is

pub take_line_decides : Decides LineTaken
take_line_decides (line, least) a b = same
