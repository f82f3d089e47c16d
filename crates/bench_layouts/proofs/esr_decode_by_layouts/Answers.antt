-- A refusal of the value comes first; then the room is held against the count of its records, which are put where they
-- fit.
use mathlib.Core.Path.{◌≡◌, sym, ◌∙◌}
use lib.ListN.{length}
use borrow.Author.Rules.{rules}
use Rattle.records.proofs.Laws.{long_as}
use Rattle.records.specs.Sets.{set_room}
use Rattle.refusals.proofs.Cases.{passed-is, refused-is}
use Rattle.capi.proofs.Laws.{filled-short, filled-whole}
use Rattle.bench_layouts.proofs.Laws.{room, decode_refused, decode_read, slots_count}
use Rattle.bench_layouts.proofs.esr_decode_by_layouts.Goals as goal

pub returns-then-is_refused : goal.returns-then-is_refused
returns-then-is_refused c =
    decode_refused _ c.decode_by_layouts-answer.ensures _ (refused-is c.decode_by_layouts-answer.result.refusal c.is_refused.ensures c.if-is_refused.true)
    c.filled_of.ensures

pub returns-then-slots-count : goal.returns-then-slots-count
returns-then-slots-count c =
    let a = c.decode_by_layouts-answer in
    let long : length a.result.records.items ≡ set_room = search (rules, long_as) in
    let all = sym (slots_count _ long (room _ a.ensures long)) in
    filled-short _ _ all c.if-slots-count.true c.carrying.ensures c.filled_of-then-slots-count.ensures
    ∙ decode_read _ a.ensures _ (passed-is c.decode_by_layouts-answer.result.refusal c.is_refused.ensures c.if-is_refused.false)

pub put_records-requires : goal.put_records-requires
put_records-requires c =
    let a = c.decode_by_layouts-answer in
    let long : length a.result.records.items ≡ set_room = search (rules, long_as) in
    (room _ a.ensures long, c.if-slots-count.false)

pub returns : goal.returns
returns c =
    filled-whole _ _ (sym c.put_records.ensures.0) c.if-slots-count.false c.filled_of-2.ensures c.put_records.ensures.1
    ∙ decode_read _ c.decode_by_layouts-answer.ensures _ (passed-is c.decode_by_layouts-answer.result.refusal c.is_refused.ensures c.if-is_refused.false)
