-- The invariant: what is left of the checks answers as all of them do. A check that fails answers; with none left,
-- nothing is refused.
use mathlib.Core.Path.{◌≡◌, sym, ap, ◌∙◌}
use native.Mathlib.Omega.{arith}
use Rattle.refusals.specs.Refusals.{checked, no_refusal}
use Rattle.layouts.specs.Layouts.{table_of}
use Rattle.layouts.proofs.Indices.{layout-fits, layout-checks}
use Rattle.esr.specs.Decode.{first_failure, failure_for}
use Rattle.esr.proofs.Laws.{check-fails, check-passes, checks-done}
use Rattle.esr.proofs.first_failure.Goals as goal

pub loop-i-init : goal.loop-i-init
unfolding failure_for
loop-i-init c =
    let a = c.args in
    let l = c.layout_of-layout in (
      layout-fits a.number a.iss l.result l.ensures,
      ap (first_failure a.iss)
          (sym (layout-checks a.number a.iss l.result l.ensures)),
    )

pub returns-then-not-meets : goal.returns-then-not-meets
returns-then-not-meets c =
    let l = c.loop-i in
    let f = l.invariant.0 in
    let laid = c.layout_of-layout.result in
    c.check.ensures
    ∙ ap checked
    (c.refusal.ensures
    ∙ sym
    (l.invariant.1
    ∙ check-fails c.args.iss laid.rows laid.checks laid.checked l.i c.meets.result
    (omega (arith, f.few_checks, f.long_checks)) (omega arith) c.meets.ensures c.if-not-meets.true))

pub loop-i-preserved : goal.loop-i-preserved
loop-i-preserved c =
    let l = c.loop-i in
    let f = l.invariant.0 in
    let laid = c.layout_of-layout.result in (
      f,
      l.invariant.1
          ∙ check-passes c.args.iss laid.rows laid.checks laid.checked l.i c.meets.result
          (omega (arith, f.few_checks, f.long_checks)) (omega arith) c.meets.ensures c.if-not-meets.false,
    )

pub returns : goal.returns
returns c =
    let f = c.loop-i.invariant.0 in
    let laid = c.layout_of-layout.result in
    let done : c.loop-i.i ≡ laid.checked = omega arith in
    let none : failure_for (table_of c.args.number) c.args.iss ≡ no_refusal =
    c.loop-i.invariant.1
    ∙ rw done (checks-done c.args.iss laid.rows laid.checks laid.checked (omega (arith, f.few_checks, f.long_checks))) in
    ap checked (sym none)
