-- Each turn passes a line feed, so what is left of the part falls; the line and the phrases keep their lengths.
use Rattle.std.proofs.Common.{◌≡◌, ◌-◌, length}
use Rattle.esr_sheet.proofs.take_part.Given as goal

abbrev pub invariant-loop-next : goal.invariant-loop-next
invariant-loop-next l = (length l.line ≡ length l.initial.line) × (length l.phrases ≡ length l.initial.phrases)

abbrev pub decreases-loop-next : goal.decreases-loop-next
decreases-loop-next l = length l.part - l.next
