-- What is left of the block falls.
use Rattle.std.proofs.Common.{◌-◌, length}
use Rattle.test_readers.proofs.lay.Given as goal

abbrev pub decreases-loop-i : goal.decreases-loop-i
decreases-loop-i l = length l.block - l.i
