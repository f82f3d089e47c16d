-- The invariant: the lines of the leaves so far are what was put.
use mathlib.Core.Path.{◌≡◌, refl}
use native.Mathlib.Omega.{arith}
use Rattle.buffer.proofs.Appending.{and_then, none, same_length}
use Rattle.make_lines.proofs.Laws.{below_none, below_more}
use Rattle.make_lines.specs.Help.{leaf_line}
use Rattle.make_lines.proofs.put_leaves.Goals as goal

pub loop-i-init : goal.loop-i-init
loop-i-init c = (rw (below_none _) (none (omega arith)), refl)

pub put_line-next-requires : goal.put_line-next-requires
put_line-next-requires c = omega (arith, c.loop-i-test.true, c.requires)

pub loop-i-preserved : goal.loop-i-preserved
loop-i-preserved c =
    let w = and_then c.loop-i.invariant.0 c.put_line-next.ensures in
    let line = leaf_line c.args.number c.args.iss in
    (rw (below_more line c.loop-i.i) w, same_length w)

pub returns : goal.returns
returns c =
    let e : c.loop-i.i ≡ c.args.count = omega (arith, c.loop-i-test.false) in
    rw e at c.loop-i.invariant.0
