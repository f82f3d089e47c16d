-- What is left of the lengths falls.
use Rattle.std.proofs.Common.{◌+◌, ◌-◌}
use Rattle.test_readers.proofs.with_parts.Given as goal

abbrev pub decreases-loop-length : goal.decreases-loop-length
decreases-loop-length l = l.greatest + 1 - l.length
