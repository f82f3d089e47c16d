-- The invariant: the lines of the records so far are what is put. The set's room ends the loop where its count does
-- not.
use borrow.Author.Rules.{rules}
use Rattle.buffer.proofs.Appending.{and_then}
use Prim.Native.Nat.{ℕ, ◌<◌}
use mathlib.Core.Path.{◌≡◌, refl, ap, ◌∙◌}
use native.Mathlib.Omega.{arith}
use lib.ListN.{length, take}
use Rattle.std.proofs.lemmas.List.{take_min}
use Rattle.buffer.proofs.Appending.{none}
use Rattle.buffer.proofs.InOrder.{one_more, no_items}
use Rattle.record_lines.specs.Lines.{record_line}
use Rattle.records.proofs.Laws.{long_as}
use Rattle.records.specs.Sets.{no_record}
use Rattle.record_lines.proofs.put_record_lines.Goals as goal

pub loop-i-init : goal.loop-i-init
loop-i-init c = (rw (no_items record_line) (none (omega arith)), refl)

pub loop-i-preserved : goal.loop-i-preserved
loop-i-preserved c =
    let items = c.args.records.items in
    let long : length items ≡ 19 = search (rules, long_as) in
    let within : c.loop-i.i < length items = omega arith in (
      rw (one_more record_line items c.loop-i.i no_record within)
          (and_then c.loop-i.invariant.0 c.put_record-next.ensures),
      omega arith,
    )

-- past the room there are no more items
pub returns : goal.returns
returns c =
    let l = c.loop-i in
    let records = c.args.records in
    let long : length records.items ≡ 19 = search (rules, long_as) in
    let all : take l.i records.items ≡ take records.count records.items =
    ap (λ (k : ℕ). take k records.items) (omega arith) ∙ take_min records.count records.items in
    rw (← all) l.invariant.0
