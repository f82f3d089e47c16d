-- What each public function promises: of what comes in and what the buffer holds before, the next offset and what the buffer holds after.
use Rattle.std.specs.Prelude.{ℕ, List}
use Rattle.buffer.specs.Appending.{Appends}
use Rattle.make_lines.specs.Help.{leaves_part, name_part, sets_text, width_part}
use Rattle.records.specs.declared.Row.{Row}

abbrev pub WidthPut : List ℕ × ℕ × ℕ → ℕ × List ℕ → Type 0
WidthPut (before, at, width) out = Appends (width_part width) (at, before) out

abbrev pub NamePut : List ℕ × ℕ × Row → ℕ × List ℕ → Type 0
NamePut (before, at, row) out = Appends (name_part row) (at, before) out

abbrev pub LeavesPut : List ℕ × ℕ × ℕ → ℕ × List ℕ → Type 0
LeavesPut (before, at, count) out = Appends (leaves_part count) (at, before) out

-- the sets of leaves of the layout of a number
abbrev pub SetsPut : List ℕ × ℕ × ℕ → ℕ × List ℕ → Type 0
SetsPut (before, at, number) out = Appends (sets_text number) (at, before) out
