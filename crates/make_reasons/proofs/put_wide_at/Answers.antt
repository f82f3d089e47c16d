-- By whether there is a leaf at the index.
use native.Mathlib.Omega.{arith}
use Rattle.buffer.proofs.Appending.{none}
use Rattle.make_reasons.proofs.Laws.{wide_none, wide_told}
use Rattle.make_reasons.proofs.put_wide_at.Goals as goal

pub returns-then-leaves-index : goal.returns-then-leaves-index
returns-then-leaves-index c =
    rw (wide_none c.args.number c.args.iss c.args.leaves.now c.args.index c.if-leaves-index.true) (none (omega arith))

pub returns : goal.returns
returns c =
    rw (
      wide_told c.args.number c.args.iss c.args.leaves.now c.args.index
          (omega (arith, c.if-leaves-index.false)),
      ← c.leaf_row-row.ensures,
    ) c.put_wide_leaf.ensures
