-- By whether the sum is one that a usize holds.
use native.Mathlib.Omega.{arith}
use Rattle.std.proofs.lemmas.Bool.Decides.{nat_tests}
use Rattle.buffer.specs.Appending.{offset}
use Rattle.buffer.proofs.offset_after.Goals as goal

pub returns : goal.returns
unfolding offset
returns c = grind (arith, nat_tests)
