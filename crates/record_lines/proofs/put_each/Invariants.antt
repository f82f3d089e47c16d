-- The invariant: the bytes so far are what is put.
use Rattle.buffer.specs.Appending.{Appends}
use Rattle.buffer.specs.InOrder.{in_order}
use Rattle.record_lines.specs.Lines.{byte_text}
use lib.ListN.{length, take}
use mathlib.Core.Path.{◌≡◌}
use Rattle.record_lines.proofs.put_each.Given as goal

abbrev pub invariant-loop-b : goal.invariant-loop-b
invariant-loop-b l =
    Appends (in_order byte_text (take l.b-index l.body)) (l.at, l.initial.buf) (l.next, l.buf)
    × (length l.buf ≡ length l.initial.buf)
