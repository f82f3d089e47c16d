-- The invariant: the runs of the values so far are what was put.
use mathlib.Core.Path.{◌≡◌}
use lib.ListN.{length}
use Rattle.buffer.specs.Appending.{Appends}
use Rattle.make_lines.specs.Below.{below}
use Rattle.make_lines.specs.Help.{may_at, run_part}
use Rattle.make_lines.proofs.Leaf.put_runs.Given as goal

abbrev pub invariant-loop-x : goal.invariant-loop-x
invariant-loop-x l =
    Appends (below (run_part (may_at l.self)) l.x) (l.at, l.initial.buf) (l.next, l.buf)
    × (length l.buf ≡ length l.initial.buf)
