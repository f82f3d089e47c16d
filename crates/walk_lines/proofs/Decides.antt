-- Each promise of this crate decides the next offset and the buffer: it says what both are.
use Rattle.promise.proofs.Laws.{same}
use Rattle.promise.specs.Promise.{Decides}
use Rattle.walk_lines.specs.Promises.{CountLine, EndLine, EntryLine, StepLine}

pub put_entry_line_decides : Decides EntryLine
put_entry_line_decides (before, at, profile, offset, entry) a b p q = same p.is q.is

pub put_step_line_decides : Decides StepLine
put_step_line_decides (before, at, skipped) a b p q = same p.is q.is

pub put_count_line_decides : Decides CountLine
put_count_line_decides (before, at, entries, decoded) a b p q = same p.is q.is

pub put_end_line_decides : Decides EndLine
put_end_line_decides (before, at, length, offset, ended) a b p q = same p.is q.is
