-- The invariant: what the lines from the index on refuse is what all of them do.
use mathlib.Core.Path.{◌≡◌, refl, sym, ap, ◌∙◌}
use Prim.Native.Nat.{ℕ}
use native.Mathlib.Omega.{arith}
use lib.ListN.{drop}
use Rattle.lookup.specs.Descriptions.{bits_of}
use Rattle.records.specs.Kinds.{kind_of}
use Rattle.texts.specs.Names.{names}
use Rattle.texts.specs.Pool.{code, index_in}
use Rattle.strict.specs.Code.{lines, stored}
use Rattle.strict.specs.Strict.{refusal_in}
use Rattle.strict.specs.Stricter.{stricter}
use Rattle.strict.proofs.Laws.{line-fails, line-passes, lines-done}
use Rattle.strict.proofs.record_refusal.Goals as goal

pub loop-line-init : goal.loop-line-init
unfolding lines stored stricter bits_of kind_of names code index_in
loop-line-init c = (refl, refl)

pub returns-then-fails : goal.returns-then-fails
returns-then-fails c =
    let a = c.args in
    let l = c.loop-line in
    c.refusal.ensures
    ∙ sym
    (l.invariant.1
    ∙ line-fails a.nested a.field l.invariant.0 l.line-index c.loop-line-test.true _
    (sym c.fails.ensures ∙ c.if-fails.true))

pub loop-line-preserved : goal.loop-line-preserved
loop-line-preserved c =
    let a = c.args in
    let l = c.loop-line in (
      l.invariant.0,
      l.invariant.1
          ∙ line-passes a.nested a.field l.invariant.0 l.line-index c.loop-line-test.true _
          (sym c.fails.ensures ∙ c.if-fails.false),
    )

pub returns : goal.returns
returns c =
    let a = c.args in
    let done : c.loop-line.line-index ≡ 4 = omega arith in
    sym
    (c.loop-line.invariant.1
    ∙ ap (λ (i : ℕ). refusal_in (drop i stricter) a.nested a.field) done
    ∙ lines-done a.nested a.field)
