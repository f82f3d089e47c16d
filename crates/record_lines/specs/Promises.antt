-- What each public function promises: of what comes in and what the buffer holds before, the next offset and what the buffer holds after.
use Rattle.std.specs.Prelude.{ℕ, List}
use Rattle.buffer.specs.Appending.{Appends}
use Rattle.records.specs.declared.Records.{Records}
use Rattle.record_lines.specs.Lines.{body_line, record_lines}

abbrev pub BodyLine : List ℕ × ℕ × List ℕ → ℕ × List ℕ → Type 0
BodyLine (before, at, body) out = Appends (body_line body) (at, before) out

abbrev pub RecordLines : List ℕ × ℕ × Records → ℕ × List ℕ → Type 0
RecordLines (before, at, records) out = Appends (record_lines records) (at, before) out
