-- The derived comparison goes column by column.
use mathlib.Core.Path.{◌∙◌}
use Rattle.leaf_values.proofs.Laws.{columns}
use Rattle.leaf_values.proofs.same_row.Goals as goal

pub returns : goal.returns
returns c = c.eq.ensures ∙ columns c.args.a c.args.b
