-- The invariant: the sets of the outcomes so far are what was put.
use mathlib.Core.Path.{◌≡◌}
use lib.ListN.{length}
use Rattle.buffer.specs.Appending.{Appends}
use Rattle.make_lines.specs.Below.{below}
use Rattle.make_lines.specs.Help.{set_at}
use Rattle.make_lines.proofs.put_sets.Given as goal

abbrev pub invariant-loop-k : goal.invariant-loop-k
invariant-loop-k l =
    Appends (below (set_at l.number) l.k) (l.at, l.initial.buf) (l.next, l.buf)
    × (length l.buf ≡ length l.initial.buf)
