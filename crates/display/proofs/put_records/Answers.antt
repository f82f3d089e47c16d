-- The invariant: the listing of the records so far is what was put.
use borrow.Author.Rules.{rules}
use native.Mathlib.Omega.{arith}
use mathlib.Core.Path.{◌≡◌, refl}
use Prim.Native.Nat.{◌<◌}
use lib.ListN.{length}
use Rattle.buffer.proofs.Appending.{none, and_then, same_length}
use Rattle.records.proofs.Laws.{long_as}
use Rattle.records.specs.Sets.{no_record}
use Rattle.buffer.proofs.InOrder.{one_more, no_items}
use Rattle.display.specs.Listings.{record_lines_with}
use Rattle.display.specs.Sources.{names_by, texts_by}
use Rattle.display.proofs.put_records.Goals as goal

pub loop-i-init : goal.loop-i-init
loop-i-init c =
    let w = c.args.words in (rw (no_items (record_lines_with (names_by w) (texts_by w))) (none (omega arith)), refl)

pub loop-i-preserved : goal.loop-i-preserved
loop-i-preserved c =
    let items = c.args.records.items in
    let long : length items ≡ 19 = search (rules, long_as) in
    let within : c.loop-i.i < length items = omega (arith, c.min-i-end.ensures) in
    let w = c.args.words in
    let put = and_then c.loop-i.invariant.0 c.put_record-next.ensures in (
      rw (one_more (record_lines_with (names_by w) (texts_by w)) items c.loop-i.i no_record within) put,
      same_length put,
    )
