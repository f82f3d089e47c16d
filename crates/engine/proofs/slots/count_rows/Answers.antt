-- The invariant: what is counted, with the rows that are left, is all.
use mathlib.Core.Path.{sym, ap, ◌∙◌}
use Prim.Native.Nat.{◌+◌, ◌-◌}
use native.Mathlib.Omega.{arith}
use lib.ListN.{length}
use Rattle.engine.proofs.Laws.{rows_le, rows-done, row-there, row-over}
use Rattle.engine.proofs.slots.count_rows.Goals as goal
use Rattle.engine.proofs.slots.count_rows.Goals.{then-applies, else-applies}

pub overflow_add-found : goal.overflow_add-found
overflow_add-found c = omega (arith, c.loop-at.invariant, rows_le c.args.answers c.args.first c.args.count)

pub loop-at-preserved : goal.loop-at-preserved
loop-at-preserved c =
    let a = c.args in
    let l = c.loop-at in
    elim c.if-applies.branch [
      | then-applies w ↦
          let e : _ =
          ap length
          (row-there a.answers l.at c.row_word.result {k = a.first + a.count - l.at}
          {m = a.first + a.count - (l.at + 1)} (omega arith) c.row_word.ensures
          (sym c.applies.ensures ∙ w.if-applies.true)) in
          omega (arith, l.invariant, e, w.found-is)
      | else-applies w ↦
          let e : _ =
          ap length
          (row-over a.answers l.at c.row_word.result {k = a.first + a.count - l.at}
          {m = a.first + a.count - (l.at + 1)} (omega arith) c.row_word.ensures
          (sym c.applies.ensures ∙ w.if-applies.false)) in
          omega (arith, l.invariant, e, w.found-is)
    ]

pub returns : goal.returns
returns c =
    let a = c.args in
    omega (
      arith,
      c.loop-at.invariant,
      ap length (rows-done a.answers c.loop-at.at (a.first + a.count - c.loop-at.at) (omega arith)),
    )
