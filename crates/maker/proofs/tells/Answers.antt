-- The rows are those at the outcome, so that their count and the index that the leaves tell at them are too.
use Rattle.std.proofs.Common.{eq-eqb, ne_eqb}
use Rattle.maker.specs.Laid.{tells_at}
use Rattle.maker.proofs.tells.Goals as goal

pub returns-then-rows-leaves : goal.returns-then-rows-leaves
unfolding tells_at
returns-then-rows-leaves c =
    rw (← c.leaf_rows-set.ensures.rows, c.index_told.ensures, eq-eqb _ _ c.if-rows-leaves.true)

pub returns-else-rows-leaves : goal.returns-else-rows-leaves
unfolding tells_at
returns-else-rows-leaves c = rw (← c.leaf_rows-set.ensures.rows, ne_eqb _ _ c.if-rows-leaves.false)
