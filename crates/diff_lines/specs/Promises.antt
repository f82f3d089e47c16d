-- What each public function promises: of what comes in and what the buffer holds before, the next offset and what the buffer holds after.
use Rattle.std.specs.Prelude.{ℕ, List}
use Rattle.buffer.specs.Appending.{Appends}
use Rattle.diff_lines.specs.Lines.{changed_lines, marked_lines}
use Rattle.records.specs.declared.Record.{Record}

-- of a mark, whatever it holds, and an index among the records
abbrev pub MarkedLines : List ℕ × ℕ × List ℕ × ℕ × Record → ℕ × List ℕ → Type 0
MarkedLines (before, at, mark, index, item) out = Appends (marked_lines mark index item) (at, before) out

abbrev pub ChangedLines : List ℕ × ℕ × List ℕ × ℕ × Record × Record → ℕ × List ℕ → Type 0
ChangedLines (before, at, mark, index, first, second) out = Appends (changed_lines mark index first second) (at, before) out
