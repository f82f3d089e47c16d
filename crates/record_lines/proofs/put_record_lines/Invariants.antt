-- The invariant: the lines of the records so far are what is put. The set's room ends the loop where its count does
-- not.
use mathlib.Core.Path.{◌≡◌}
use lib.ListN.{length, take}
use Rattle.buffer.specs.Appending.{Appends}
use Rattle.buffer.specs.InOrder.{in_order}
use Rattle.record_lines.specs.Lines.{record_line}
use Rattle.record_lines.proofs.put_record_lines.Given as goal

abbrev pub invariant-loop-i : goal.invariant-loop-i
invariant-loop-i l =
    Appends (in_order record_line (take l.i l.records.items)) (l.at, l.initial.buf) (l.next, l.buf)
    × (length l.buf ≡ length l.initial.buf)
