-- What each public function promises: of what comes in and what the buffer holds before, the next offset and what the buffer holds after.
use Rattle.std.specs.Prelude.{ℕ, List, Option}
use Rattle.buffer.specs.Appending.{Appends}
use Rattle.entry.specs.declared.Entry.{Entry}
use Rattle.refusals.specs.declared.Refusal.{Refusal}
use Rattle.strict.specs.declared.Profile.{Profile}
use Rattle.walk_lines.specs.Lines.{count_line, end_line, entry_line, step_line}

abbrev pub EntryLine : List ℕ × ℕ × Profile × ℕ × Entry → ℕ × List ℕ → Type 0
EntryLine (before, at, profile, offset, entry) out = Appends (entry_line profile offset entry) (at, before) out

abbrev pub StepLine : List ℕ × ℕ × ℕ → ℕ × List ℕ → Type 0
StepLine (before, at, skipped) out = Appends (step_line skipped) (at, before) out

abbrev pub CountLine : List ℕ × ℕ × ℕ × ℕ → ℕ × List ℕ → Type 0
CountLine (before, at, entries, decoded) out = Appends (count_line entries decoded) (at, before) out

-- of a block of this length
abbrev pub EndLine : List ℕ × ℕ × ℕ × ℕ × Option Refusal → ℕ × List ℕ → Type 0
EndLine (before, at, length, offset, ended) out = Appends (end_line length offset ended) (at, before) out
