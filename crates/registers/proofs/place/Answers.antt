-- Where the search by halves finds a key is its place; where it finds none, no entry has it.
use mathlib.Core.Path.{refl}
use Rattle.registers.specs.Registers.{registers}
use Rattle.registers.proofs.Laws.{there, not_there}
use Rattle.registers.proofs.place.Goals as goal

pub returns-in-Ok : goal.returns-in-Ok
unfolding registers
returns-in-Ok c = there c.args.key _ refl _ c.in-Ok.ensures.position

pub returns-in-Err : goal.returns-in-Err
unfolding registers
returns-in-Err c = not_there c.args.key _ refl _ c.in-Err.ensures.position
