-- The invariant says what is left: the answer is that of the run so far on the rest of the part.
use Prim.Native.Nat.{◌-◌}
use mathlib.Core.Path.{◌≡◌}
use lib.ListN.{length, drop}
use Rattle.number_lines.specs.Runs.{take_from}
use Rattle.number_lines.proofs.take_lines.Given as goal

abbrev pub invariant-loop-next : goal.invariant-loop-next
invariant-loop-next l =
    (take_from l.initial.lines l.initial.run l.initial.next (drop l.initial.next l.part)
    ≡ take_from l.lines l.run l.next (drop l.next l.part))
    × (length l.run ≡ length l.initial.run)

abbrev pub decreases-loop-next : goal.decreases-loop-next
decreases-loop-next l = length l.part - l.next
