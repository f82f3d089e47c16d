-- By whether the run is full, and whether the line holds a number.
use mathlib.Core.Path.{sym, ◌∙◌}
use Prim.Native.Nat.{◌+◌, ◌<◌}
use lib.ListN.{length}
use native.Mathlib.Omega.{arith}
use Rattle.number_lines.proofs.Laws.{some-place}
use Rattle.number_lines.proofs.end_line.Goals as goal
use Rattle.number_lines.proofs.end_line.Goals.{Else-is_full}

-- the run is not full where the first test fails
place : (c : Else-is_full) → c.args.from.numbers + c.args.from.none < length c.args.run.now
place c =
    let a = c.args in
    some-place a.from a.run.now (sym c.is_full.ensures ∙ c.if-is_full.false)

pub overflow_add-result : goal.overflow_add-result
overflow_add-result c = omega (arith, place (goal.at.overflow_add-result c).Else-is_full)

pub offset_bounds-run-at : goal.offset_bounds-run-at
offset_bounds-run-at c = omega (arith, place (goal.at.offset_bounds-run-at c).Else-is_full)

pub bounds-run-at : goal.bounds-run-at
bounds-run-at c = omega (arith, place (goal.at.bounds-run-at c).Else-is_full)

pub overflow_add-result-2 : goal.overflow_add-result-2
overflow_add-result-2 c = omega (arith, place (goal.at.overflow_add-result-2 c).Else-is_full)
