-- The invariant: the sets of the outcomes so far are what was put.
use mathlib.Core.Path.{◌≡◌, refl}
use native.Mathlib.Omega.{arith}
use Rattle.buffer.proofs.Appending.{and_then, none, same_length}
use Rattle.make_lines.proofs.Laws.{below_none, below_more}
use Rattle.make_lines.specs.Help.{set_at, sets_text}
use Rattle.make_lines.proofs.put_sets.Goals as goal

pub loop-k-init : goal.loop-k-init
loop-k-init c = (rw (below_none _) (none (omega arith)), refl)

pub loop-k-preserved : goal.loop-k-preserved
loop-k-preserved c =
    let w = and_then c.loop-k.invariant.0 c.put_set_at-next.ensures in
    (rw (below_more (set_at c.args.number) c.loop-k.k) w, same_length w)

pub returns : goal.returns
unfolding sets_text
returns c =
    let e : c.loop-k.k ≡ 32 = omega (arith, c.loop-k-test.false) in
    rw e at c.loop-k.invariant.0
