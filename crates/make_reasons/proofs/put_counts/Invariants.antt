-- The invariant: the numbers so far are what was put.
use mathlib.Core.Path.{◌≡◌}
use lib.ListN.{length}
use Rattle.buffer.specs.Appending.{Appends}
use Rattle.make_lines.specs.Below.{below}
use Rattle.make_reasons.specs.Reasons.{count_part}
use Rattle.make_reasons.proofs.put_counts.Given as goal

abbrev pub invariant-loop-n : goal.invariant-loop-n
invariant-loop-n l =
    Appends (below (count_part l.number) l.n) (l.at, l.initial.buf) (l.next, l.buf) ×
    (length l.buf ≡ length l.initial.buf)
