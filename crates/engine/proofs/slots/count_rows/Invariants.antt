-- The invariant: what is counted, with the rows that are left, is all.
use mathlib.Core.Path.{◌≡◌}
use Prim.Native.Nat.{◌+◌, ◌-◌}
use lib.ListN.{length}
use Rattle.engine.specs.Engine.{rows_from}
use Rattle.engine.proofs.slots.count_rows.Given as goal

abbrev pub invariant-loop-at : goal.invariant-loop-at
invariant-loop-at l =
    l.found + length (rows_from l.answers l.at (l.first + l.count - l.at))
    ≡ length (rows_from l.answers l.first l.count)
