-- Each turn takes a byte at least, so what is left of the input falls.
use Rattle.std.proofs.Common.{◌-◌, length}
use Rattle.test_texts.proofs.say_given.Given as goal

abbrev pub decreases-loop-at : goal.decreases-loop-at
decreases-loop-at l = length l.given - l.at
