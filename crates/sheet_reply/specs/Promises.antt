-- What each public function promises: of what comes in and what the buffer holds before, the answer and what the buffer holds after.
use Rattle.std.specs.Prelude.{ℕ, Bool, List, ◌≡◌, Result}
use Rattle.buffer.specs.Appending.{Appends}
use Rattle.sheet_lines.specs.Lines.{taken_of}
use Rattle.sheet_lines.specs.declared.Fault.{Fault}
use Rattle.sheet_reply.specs.Replies.{standard_lines, is_fault, adds, added_of, head_bytes, fault_line}
use Rattle.sheet_reply.specs.declared.Added.{Added}

abbrev pub LinesPut : List ℕ × ℕ → ℕ × List ℕ → Type 0
LinesPut (before, at) out = Appends standard_lines (at, before) out

-- whether a line is refused
abbrev pub IsFault : Fault → Bool → Type 0
IsFault fault r = r ≡ is_fault fault

abbrev pub LineAdded : List ℕ × ℕ × List ℕ × ℕ → Result Added Fault × List ℕ → Type 0
LineAdded (before, at, line, least) out = out ≡ added_of (adds line (taken_of line least)) (at, before)

abbrev pub HeadPut : List ℕ × ℕ × ℕ → ℕ × List ℕ → Type 0
HeadPut (before, at, count) out = Appends (head_bytes count) (at, before) out

abbrev pub FaultPut : List ℕ × ℕ × ℕ × Fault → ℕ × List ℕ → Type 0
FaultPut (before, at, line, fault) out = Appends (fault_line line fault) (at, before) out
