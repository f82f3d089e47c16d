-- Two sets of one layout.
use borrow.Author.Rules.{rules}
use Rattle.leaf_values.specs.Leaves.{same_leaves}
use Rattle.leaf_values.proofs.same_leaves.Goals as goal

pub returns : goal.returns
unfolding same_leaves
returns c = search rules
