-- The invariant: the lines of the leaves so far are what was put.
use mathlib.Core.Path.{◌≡◌}
use lib.ListN.{length}
use Rattle.buffer.specs.Appending.{Appends}
use Rattle.make_lines.specs.Below.{below}
use Rattle.make_lines.specs.Help.{leaf_line}
use Rattle.make_lines.proofs.put_leaves.Given as goal

abbrev pub invariant-loop-i : goal.invariant-loop-i
invariant-loop-i l =
    Appends (below (leaf_line l.number l.iss) l.i) (l.at, l.initial.buf) (l.next, l.buf)
    × (length l.buf ≡ length l.initial.buf)
