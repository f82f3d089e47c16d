-- The invariant: what was put, with what is left, is the whole.
use mathlib.Core.List.{[]}
use mathlib.Core.Path.{refl}
use native.Mathlib.Omega.{arith}
use Rattle.buffer.proofs.Appending.{none, same_length}
use Rattle.diff_reply.proofs.Laws.{and_on, all_put}
use Rattle.diff_reply.proofs.Pair.put_side_by_side.Goals as goal

pub loop-turn-init : goal.loop-turn-init
loop-turn-init c = (omega arith, omega arith, record { text = []; puts = none (omega arith); rest = refl }, refl)

pub put_step-turn-requires : goal.put_step-turn-requires
put_step-turn-requires c =
    record {
      first = c.loop-turn.invariant.0;
      second = c.loop-turn.invariant.1;
      more = omega arith;
      few = omega arith;
    }

pub loop-turn-preserved : goal.loop-turn-preserved
loop-turn-preserved c =
    let w = and_on c.loop-turn.invariant.2 c.put_step-turn.ensures.part in
    (c.put_step-turn.ensures.first, c.put_step-turn.ensures.second, w, same_length w.puts)

pub returns : goal.returns
returns c = all_put c.loop-turn.invariant.2 (omega arith) (omega arith)
