-- What each public function promises. A promise takes what comes in, then what comes out.
use Rattle.std.specs.Prelude.{ℕ, Bool, List, ◌≡◌, drop}
use Rattle.number_lines.specs.Runs.{no_lines, is_full, take_from, take_last}
use Rattle.number_lines.specs.declared.Lines.{Lines}
use Rattle.number_lines.specs.declared.LinesPart.{LinesPart}

-- where a run stands before its first line
abbrev pub Started : Unit {0} → Lines → Type 0
Started i r = r ≡ no_lines

-- whether a run of so many places takes no line more
abbrev pub Filled : Lines × ℕ → Bool → Type 0
Filled (l, places) r = r ≡ is_full l places

-- where the run stands after a part of the input, from an offset on, and what it holds
abbrev pub LinesTaken : Lines × List ℕ × ℕ × List ℕ → LinesPart × List ℕ → Type 0
LinesTaken (l, part, at, run) out = out ≡ take_from l run at (drop at part)

-- the same at the end of the input
abbrev pub LastTaken : Lines × List ℕ → Lines × List ℕ → Type 0
LastTaken (l, run) out = out ≡ take_last l run
