-- After each value the tables hold the counts of the values up to it, and with those that are left the whole counts.
use Prim.Native.Nat.{ℕ}
use mathlib.Core.Path.{◌≡◌, ap, ◌∙◌}
use native.Mathlib.Omega.{arith}
use lib.ListN.{length, length-replicate}
use Rattle.survey.specs.Surveys.{is_of_class, is_refused_at}
use Rattle.survey.proofs.Laws.{counted_none, counted-more, counted-done, counted-roomy}
use Rattle.survey.proofs.note_all.Goals as goal

pub loop-value-init : goal.loop-value-init
loop-value-init c =
    let e = c.requires.1 in
    let f = c.requires.2 in (
      ap length e ∙ length-replicate {A = ℕ} 64 0,
      ap length f ∙ length-replicate {A = ℕ} 9 0,
      counted_none (is_of_class c.args.profile) 64 c.args.values.now c.args.counts.now e,
      counted_none (is_refused_at c.args.profile) 9 c.args.values.now c.args.refused.now f,
    )

pub note-requires : goal.note-requires
note-requires c =
    let l = c.loop-value in
    let h = c.loop-value-test.true in (
      l.invariant.0,
      l.invariant.1,
      counted-roomy (is_of_class c.args.profile) c.args.values.now l.counts l.value-index h c.requires.0 l.invariant.2,
      counted-roomy (is_refused_at c.args.profile) c.args.values.now l.refused l.value-index h c.requires.0 l.invariant.3,
    )

pub loop-value-preserved : goal.loop-value-preserved
loop-value-preserved c =
    let n = c.note in
    let l = c.loop-value in
    let h = c.loop-value-test.true in (
      n.ensures.0.places ∙ l.invariant.0,
      n.ensures.1.places ∙ l.invariant.1,
      counted-more (is_of_class c.args.profile) c.args.values.now l.counts n.new.counts l.value-index h n.ensures.0 l.invariant.2,
      counted-more (is_refused_at c.args.profile) c.args.values.now l.refused n.new.refused l.value-index h n.ensures.1
          l.invariant.3,
    )

pub returns : goal.returns
returns c =
    let l = c.loop-value in
    let e : l.value-index ≡ length c.args.values.now = omega arith in (
      counted-done (is_of_class c.args.profile) 64 c.args.values.now l.counts l.value-index e l.invariant.0 l.invariant.2,
      counted-done (is_refused_at c.args.profile) 9 c.args.values.now l.refused l.value-index e l.invariant.1 l.invariant.3,
    )
