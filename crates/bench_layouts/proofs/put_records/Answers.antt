-- Each turn puts one record more; every record of the set has its slot.
use Prim.Native.Nat.{ℕ, ◌≤◌}
use mathlib.Core.List.{List}
use mathlib.Core.Path.{◌≡◌, refl, ap, ◌∙◌}
use native.Mathlib.Omega.{arith}
use lib.ListN.{length, set, length-set}
use Rattle.records.proofs.Laws.{long_as}
use Rattle.records.specs.Sets.{set_room, no_record}
use Rattle.records.specs.declared.Records.{Records}
use Rattle.engine.specs.Words.{words_of}
use Rattle.capi.specs.Words.{all_words}
use Rattle.bench_layouts.proofs.Laws.{so_far_more, so_far-done, slot_at, slots_count}
use borrow.Author.Rules.{rules}
use Rattle.bench_layouts.proofs.put_records.Goals as goal

pub loop-i-init : goal.loop-i-init
loop-i-init c = (refl, refl)

pub offset_bounds-records-i : goal.offset_bounds-records-i
offset_bounds-records-i c = omega (arith, c.requires.0)

pub bounds-records-i : goal.bounds-records-i
bounds-records-i c = omega (arith, c.requires.0)

pub offset_bounds-slots-i : goal.offset_bounds-slots-i
offset_bounds-slots-i c = omega (arith, c.requires.0)

pub bounds-slots-i : goal.bounds-slots-i
bounds-slots-i c = omega (arith, c.requires.1)

pub loop-i-preserved : goal.loop-i-preserved
loop-i-preserved c =
    let l = c.loop-i in
    let s : Records = c.args.records in
    let slots : List (List ℕ) = c.args.slots.now in
    let word : List ℕ = c.words.result in
    let long : length s.items ≡ set_room = search (rules, long_as) in
    let n : length (all_words s) ≡ s.count = slots_count s long c.requires.0 in
    let is = c.words.ensures ∙ slot_at s l.i (omega arith) in
    let fits : length (all_words s) ≤ length slots = omega (arith, c.requires.1) in
    let more = so_far_more (all_words s) slots fits (words_of no_record) l.i word (omega arith) is in (
      length-set l.slots l.i word ∙ l.invariant.0,
      ap (λ (p : List (List ℕ)). set p l.i word) l.invariant.1 ∙ more,
    )

pub shape_of-slots : goal.shape_of-slots
shape_of-slots c = c.loop-i.invariant.0

pub returns : goal.returns
returns c =
    let l = c.loop-i in
    let s : Records = c.args.records in
    let slots : List (List ℕ) = c.args.slots.now in
    let long : length s.items ≡ set_room = search (rules, long_as) in
    let n : length (all_words s) ≡ s.count = slots_count s long c.requires.0 in
    (n, l.invariant.1 ∙ so_far-done (all_words s) slots (omega (arith, c.requires.1)) l.i (omega arith))
