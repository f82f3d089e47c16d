-- The invariant says what is left: what was added so far and what is left of the counts come to the whole answer.
use Prim.Native.Nat.{◌+◌}
use mathlib.Core.Bool.{◌&&◌}
use mathlib.Core.Path.{◌≡◌}
use lib.ListN.{drop}
use Rattle.survey_reply.specs.Sums.{add_each}
use Rattle.survey_reply.proofs.add_each.Given as goal

abbrev pub invariant-loop-i : goal.invariant-loop-i
invariant-loop-i l =
    add_each l.initial.totals l.from l.counts
    ≡ (
      l.all && (add_each l.totals (l.from + l.i) (drop l.i l.counts)).0,
      (add_each l.totals (l.from + l.i) (drop l.i l.counts)).1,
    )
