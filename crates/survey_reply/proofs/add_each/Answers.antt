-- The invariant says what is left: what was added so far and what is left of the counts come to the whole answer.
use Prim.Native.Nat.{ℕ, ◌+◌}
use mathlib.Core.Path.{sym, ap, ◌∙◌}
use native.Mathlib.Nat.{add-zero}
use native.Mathlib.Omega.{arith}
use Rattle.survey_reply.proofs.Laws.{and_all, each-done, each_turn}
use Rattle.survey_reply.specs.Sums.{add_each}
use Rattle.survey_reply.proofs.add_each.Goals as goal

pub loop-i-init : goal.loop-i-init
loop-i-init c = let a = c.args in ap (λ (k : ℕ). add_each a.totals.now k a.counts.now) (sym (add-zero a.from))

pub loop-i-preserved : goal.loop-i-preserved
loop-i-preserved c =
    let a = c.args in
    let i = c.loop-i.i in
    c.loop-i.invariant
    ∙ each_turn c.loop-i.totals (a.from + i) a.counts.now i c.loop-i.all (a.from + (i + 1)) c.add_count-all.ensures
    (omega arith) c.loop-i-test.true

pub returns : goal.returns
returns c =
    let a = c.args in
    sym (c.loop-i.invariant
    ∙ rw (each-done c.loop-i.totals (a.from + c.loop-i.i) a.counts.now c.loop-i.i (omega arith), and_all c.loop-i.all))
