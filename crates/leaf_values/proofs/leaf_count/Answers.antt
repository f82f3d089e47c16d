-- An undivided ISS has one leaf.
use mathlib.Core.Path.{◌∙◌}
use Rattle.leaf_values.proofs.Laws.{max-counted}
use Rattle.leaf_values.proofs.leaf_count.Goals as goal

pub returns : goal.returns
returns c = c.max.ensures ∙ max-counted c.args.number c.args.iss c.layout_of.result c.layout_of.ensures
