-- The offset stays within the requests, and what is left of them falls.
use Rattle.std.proofs.Common.{◌-◌, ◌≤◌, length}
use Rattle.test_readers.proofs.answer.Given as goal

abbrev pub invariant-loop-at : goal.invariant-loop-at
invariant-loop-at l = l.at ≤ length l.requests

abbrev pub decreases-loop-at : goal.decreases-loop-at
decreases-loop-at l = length l.requests - l.at
