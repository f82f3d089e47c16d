-- The invariant: the lines of the entries so far are what was put; the entry read is the walk's at that index.
use mathlib.Core.Path.{◌≡◌}
use lib.ListN.{length, take}
use Rattle.buffer.specs.Appending.{Appends}
use Rattle.buffer.specs.InOrder.{in_order}
use Rattle.walk.specs.Walks.{entries_of}
use Rattle.walk_reply.specs.Replies.{lines_at}
use Rattle.walk_reply.proofs.put_entries.Given as goal

abbrev pub invariant-loop-i : goal.invariant-loop-i
invariant-loop-i l =
    Appends (in_order (lines_at l.profile l.steps) (take l.i (entries_of l.block))) (l.at, l.initial.buf) (l.next, l.buf)
    × (length l.buf ≡ length l.initial.buf)
