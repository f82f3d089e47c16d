-- The codes of the two names are those of the texts.
use mathlib.Core.Path.{refl}
use Rattle.texts.specs.Names.{names}
use Rattle.texts.specs.Pool.{code, index_in}
use Rattle.layout_sets.proofs.iss_row.Goals as goal

pub returns : goal.returns
unfolding code index_in names
returns c = refl
