-- The invariant says what is left: the state so far, on the characters from the loop's offset to the first stop, leads
-- to the whole answer.
use Rattle.std.proofs.Common.{◌≤◌, length}
use Rattle.number.proofs.Laws.{DigitsFrom}
use Rattle.number.proofs.read_digits.Given as goal

abbrev pub invariant-loop-at : goal.invariant-loop-at
invariant-loop-at l = DigitsFrom l.fn.from l.s l.state l.at × (l.at ≤ length l.s)
