-- A number is below 2^24, and what is left of its bytes falls.
use Rattle.std.proofs.Common.{◌-◌, ◌<◌}
use Rattle.test_readers.proofs.number_at.Given as goal

abbrev pub invariant-loop-i : goal.invariant-loop-i
invariant-loop-i l = l.number < 0x1000000

abbrev pub decreases-loop-i : goal.decreases-loop-i
decreases-loop-i l = l.to - l.i
