-- The invariant: what is left of the checks answers as all of them do.
use mathlib.Core.Path.{sym, ap, ◌∙◌, subst}
use Prim.Native.Nat.{ℕ, ◌+◌, ◌-◌}
use native.Mathlib.Omega.{arith}
use lib.Dec.{T}
use Rattle.refusals.specs.Refusals.{checked}
use Rattle.records.specs.Rows.{refusal_of}
use Rattle.engine_table.specs.Packed.{row_word}
use Rattle.engine.specs.Engine.{direct}
use Rattle.engine.proofs.Laws.{check-fails, check-passes, checks-done}
use Rattle.engine.proofs.Direct.{row-direct}
use Rattle.engine.proofs.first_failure.Goals as goal

pub fails-requires : goal.fails-requires
fails-requires c = subst (λ (n : ℕ). T (direct n)) (sym c.row_word-word.ensures) (row-direct c.byte.result)

pub returns-then-fails : goal.returns-then-fails
returns-then-fails c =
    let a = c.args in
    c.check.ensures
    ∙ ap checked
    (c.refusal.ensures
    ∙ ap (refusal_of a.iss) c.row_in.ensures
    ∙ sym
    (c.loop.invariant
    ∙ check-fails a.answers a.iss c.loop.rest c.row_word-word.result {m = a.count - (c.loop.counter + 1)} (omega arith)
    (c.row_word-word.ensures ∙ ap row_word c.byte.ensures) (sym c.fails.ensures ∙ c.if-fails.true)))

pub loop-preserved : goal.loop-preserved
loop-preserved c =
    let a = c.args in
    c.loop.invariant
    ∙ check-passes a.answers a.iss c.loop.rest c.row_word-word.result (omega arith)
    (c.row_word-word.ensures ∙ ap row_word c.byte.ensures) (sym c.fails.ensures ∙ c.if-fails.false)

pub returns : goal.returns
returns c =
    let a = c.args in
    ap checked (sym (c.loop.invariant ∙ checks-done a.answers a.iss c.loop.rest _ (omega arith)))
