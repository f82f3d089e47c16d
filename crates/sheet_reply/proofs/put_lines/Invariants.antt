-- The invariant: the lines of the codes so far are what was put.
use mathlib.Core.Path.{◌≡◌}
use Prim.Native.Nat.{◌-◌}
use lib.ListN.{length}
use Rattle.buffer.specs.Appending.{Appends}
use Rattle.sheet_reply.specs.Replies.{lines_at}
use Rattle.sheet_reply.proofs.put_lines.Given as goal

abbrev pub invariant-loop-code : goal.invariant-loop-code
invariant-loop-code l =
    Appends (lines_at 128 (l.code - 128)) (l.at, l.initial.buf) (l.next, l.buf)
    × (length l.buf ≡ length l.initial.buf)
