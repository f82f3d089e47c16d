-- Each turn takes a byte at least, so what is left of the part falls.
use Rattle.std.proofs.Common.{◌-◌, length}
use Rattle.esr_listing.proofs.Asked.answer_part.Given as goal

abbrev pub decreases-loop-next : goal.decreases-loop-next
decreases-loop-next l = length l.part - l.next
