-- What is left of the words falls.
use Rattle.std.proofs.Common.{◌-◌}
use Rattle.test_readers.proofs.with_words.Given as goal

abbrev pub decreases-loop-index : goal.decreases-loop-index
decreases-loop-index l = 0x1000000 - l.index
