-- The answer of each of the three ways, from the test that leads to it.
use Prim.Native.Nat.{ℕ}
use mathlib.Core.List.{List}
use mathlib.Core.Path.{◌≡◌, refl, sym, ap, ap₂, ◌∙◌}
use native.Mathlib.Omega.{arith}
use lib.ListN.{length, replicate}
use Rattle.refusals.specs.declared.Refusal.{Refusal}
use Rattle.std.specs.Prelude.{Result, Ok, Err}
use Rattle.survey.specs.declared.Tally.{Tally}
use Rattle.survey.proofs.Answers.{bad_table, long_run, counted}
use Rattle.survey.proofs.Laws.{counts-length}
use Rattle.survey.specs.Surveys.{is_of_class}
use borrow.Author.Rules.{rules}
use Rattle.survey.proofs.survey.Goals as goal

abbrev refuses : List ℕ → Refusal → Result Tally Refusal × List ℕ
refuses counts f = (Err f, counts)

pub returns-then-counts-ne-CLASSES : goal.returns-then-counts-ne-CLASSES
returns-then-counts-ne-CLASSES c =
    ap (refuses c.args.counts.now) c.carrying.ensures ∙ sym
    (bad_table c.args.profile c.args.values.now c.args.counts.now (λ e. omega (arith, c.if-counts-ne-CLASSES.true, e)))

pub returns-then-values-ge-LIMIT : goal.returns-then-values-ge-LIMIT
returns-then-values-ge-LIMIT c =
    ap (refuses c.args.counts.now) c.carrying-then-values-ge-LIMIT.ensures
    ∙ sym (long_run c.args.profile c.args.values.now c.args.counts.now (omega arith) c.if-values-ge-LIMIT.true)

pub note_all-requires : goal.note_all-requires
note_all-requires c =
    let e : length c.args.counts.now ≡ 64 = omega arith in
    (omega arith, search rules, refl)

pub shape_of-counts : goal.shape_of-counts
shape_of-counts c =
    let n = c.note_all.ensures.0 in
    let e : 64 ≡ length c.args.counts.now = omega arith in
    ap length n ∙ counts-length (is_of_class c.args.profile) 0 64 c.args.values.now ∙ e

pub returns : goal.returns
returns c =
    let n = c.note_all.ensures in
    ap₂ (λ (r t : List ℕ). (Ok (record { refused = r }), t)) n.1 n.0
    ∙ sym (counted c.args.profile c.args.values.now c.args.counts.now (omega arith) (omega arith))
