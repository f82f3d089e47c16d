-- The invariant: the runs of the values so far are what was put.
use mathlib.Core.Path.{◌≡◌, refl}
use native.Mathlib.Omega.{arith}
use Rattle.buffer.proofs.Appending.{and_then, none, same_length}
use Rattle.make_lines.proofs.Laws.{below_none, below_more}
use Rattle.make_lines.specs.Help.{may_at, run_part}
use Rattle.make_lines.proofs.Leaf.put_runs.Goals as goal

pub loop-x-init : goal.loop-x-init
loop-x-init c = (rw (below_none _) (none (omega arith)), refl)

pub put_run-next-requires : goal.put_run-next-requires
put_run-next-requires c = omega (arith, c.loop-x-test.true, c.requires)

pub loop-x-preserved : goal.loop-x-preserved
loop-x-preserved c =
    let w = and_then c.loop-x.invariant.0 c.put_run-next.ensures in
    let part = run_part (may_at c.args.self) in
    (rw (below_more part c.loop-x.x) w, same_length w)

pub returns : goal.returns
returns c =
    let e : c.loop-x.x ≡ c.args.room = omega (arith, c.loop-x-test.false) in
    rw e at c.loop-x.invariant.0
