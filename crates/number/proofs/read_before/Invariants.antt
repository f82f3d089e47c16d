-- The invariant says what is left: the state so far, on the bytes up to the first stop, leads to the state of all of
-- them.
use Rattle.number.proofs.Stops.{StepsFrom}
use Rattle.number.proofs.read_before.Given as goal

abbrev pub invariant-loop-at : goal.invariant-loop-at
invariant-loop-at l = StepsFrom l.s l.state l.at
