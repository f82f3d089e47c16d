-- Each promise of this crate decides the next offset and the buffer: it says what both are.
use Rattle.promise.proofs.Laws.{same}
use Rattle.promise.specs.Promise.{Decides}
use Rattle.diff_lines.specs.Promises.{ChangedLines, MarkedLines}

pub put_marked_decides : Decides MarkedLines
put_marked_decides (before, at, mark, index, item) a b p q = same p.is q.is

pub put_changed_decides : Decides ChangedLines
put_changed_decides (before, at, mark, index, first, second) a b p q = same p.is q.is
