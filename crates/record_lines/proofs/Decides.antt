-- Each promise of this crate decides the next offset and the buffer: it says what both are.
use Rattle.promise.proofs.Laws.{same}
use Rattle.promise.specs.Promise.{Decides}
use Rattle.record_lines.specs.Promises.{BodyLine, RecordLines}

pub put_body_decides : Decides BodyLine
put_body_decides (before, at, body) a b p q = same p.is q.is

pub put_record_lines_decides : Decides RecordLines
put_record_lines_decides (before, at, records) a b p q = same p.is q.is
