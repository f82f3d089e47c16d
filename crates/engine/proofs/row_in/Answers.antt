-- Each column is the byte that it says.
use Rattle.engine.specs.Engine.{row_in}
use Rattle.engine.proofs.row_in.Goals as goal

pub returns : goal.returns
unfolding row_in
returns c = cc
