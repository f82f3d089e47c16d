-- What each public function promises: of what comes in, the answer; where a buffer is lent, the next offset and what the buffer holds after.
use Rattle.std.specs.Prelude.{ℕ, List, ◌≡◌, Result}
use Rattle.buffer.specs.Appending.{Appends}
use Rattle.sheet_lines.specs.Lines.{code_line, taken_of}
use Rattle.sheet_lines.specs.declared.Fault.{Fault}
use Rattle.sheet_lines.specs.declared.Taken.{Taken}

abbrev pub CodeLinePut : List ℕ × ℕ × ℕ → ℕ × List ℕ → Type 0
CodeLinePut (before, at, code) out = Appends (code_line code) (at, before) out

abbrev pub LineTaken : List ℕ × ℕ → Result Taken Fault → Type 0
LineTaken (line, least) r = r ≡ taken_of line least
