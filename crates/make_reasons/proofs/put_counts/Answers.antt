-- The invariant: the numbers so far are what was put.
use mathlib.Core.Path.{◌≡◌, refl}
use native.Mathlib.Omega.{arith}
use Rattle.buffer.proofs.Appending.{and_then, none, same_length}
use Rattle.make_lines.proofs.Laws.{below_none, below_more}
use Rattle.make_reasons.specs.Reasons.{count_part, counts_part}
use Rattle.make_reasons.proofs.put_counts.Goals as goal

pub loop-n-init : goal.loop-n-init
loop-n-init c = (rw (below_none _) (none (omega arith)), refl)

pub loop-n-preserved : goal.loop-n-preserved
loop-n-preserved c =
    let w = and_then c.loop-n.invariant.0 c.put_count-next.ensures in
    (rw (below_more (count_part c.args.number) c.loop-n.n) w, same_length w)

pub returns : goal.returns
unfolding counts_part
returns c =
    let e : c.loop-n.n ≡ 15 = omega (arith, c.loop-n-test.false) in
    rw e at c.loop-n.invariant.0
