-- Each return is the answer that its tests lead to; entries of 13 bytes each lie within the block.
use Rattle.std.proofs.Common.{◌≡◌, ℕ, ◌*◌, ◌-◌, ◌≤◌, List, length, sym, ap, ◌∙◌, ap₂, arith}
use Rattle.std.specs.Prelude.{Ok, Err}
use Rattle.refusals.specs.declared.Refusal.{Refusal}
use Rattle.walk.specs.Walks.{entries_of, steps_in}
use Rattle.walk.specs.declared.Walked.{Walked}
use Rattle.walk.proofs.Laws.{rest, entries_fit, steps_fewer, walk_long, walk_short, walk_whole, walked-is}
use Rattle.walk.proofs.walk.Goals as goal

-- the places needed
needed : {n k : ℕ} (s : List ℕ) → n ≡ k - 1 → k ≡ length (entries_of s) → n ≡ length (steps_in s)
needed s e k = omega (arith, e, k, steps_fewer s)

fits : {k : ℕ} (s : List ℕ) → k ≡ length (entries_of s) → 13 * k ≤ length s
fits s k = omega (arith, k, entries_fit s)

pub returns-then-block-gt-LIMIT : goal.returns-then-block-gt-LIMIT
returns-then-block-gt-LIMIT c =
    let a = c.args in
    ap (λ (f : Refusal). (Err f, a.steps.now)) c.carrying.ensures
    ∙ sym (walk_long a.profile a.block.now a.steps.now c.if-block-gt-LIMIT.true)

pub returns-then-steps-needed : goal.returns-then-steps-needed
returns-then-steps-needed c =
    let a = c.args in
    ap (λ (f : Refusal). (Err f, a.steps.now)) c.carrying-then-steps-needed.ensures
    ∙ sym (walk_short a.profile a.block.now a.steps.now c.saturating_sub-needed.result c.if-block-gt-LIMIT.false
    (needed a.block.now c.saturating_sub-needed.ensures c.count-entries.ensures.0) c.if-steps-needed.true)

pub write_steps-requires : goal.write_steps-requires
write_steps-requires c =
    omega (
      arith,
      needed c.args.block.now c.saturating_sub-needed.ensures c.count-entries.ensures.0,
      c.if-steps-needed.false,
    )

pub overflow_mul-offset : goal.overflow_mul-offset
overflow_mul-offset c = omega (arith, fits c.args.block.now c.count-entries.ensures.0, c.if-block-gt-LIMIT.false)

pub slice_bounds-end_refusal-count : goal.slice_bounds-end_refusal-count
slice_bounds-end_refusal-count c = fits c.args.block.now c.count-entries.ensures.0

pub slice_bounds-end_refusal-start : goal.slice_bounds-end_refusal-start
slice_bounds-end_refusal-start c = omega (arith, fits c.args.block.now c.count-entries.ensures.0)

pub returns : goal.returns
returns c =
    let a = c.args in
    let s = a.block.now in
    ap₂ (λ (x : Walked) (l : List ℕ). (Ok x, l))
    (walked-is a.profile s _ _ _ _ c.count-entries.ensures.0 c.count-entries.ensures.1
    (rest s (13 * c.count-entries.result.entries)) c.end_refusal-ended.ensures)
    c.write_steps.ensures
    ∙ sym (walk_whole a.profile s a.steps.now c.saturating_sub-needed.result c.if-block-gt-LIMIT.false
    (needed s c.saturating_sub-needed.ensures c.count-entries.ensures.0) c.if-steps-needed.false)
