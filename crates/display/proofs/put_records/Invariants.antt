-- The invariant: the listing of the records so far is what was put.
use lib.ListN.{length, take}
use mathlib.Core.Path.{◌≡◌}
use Rattle.buffer.specs.Appending.{Appends}
use Rattle.display.specs.Listings.{listing_with}
use Rattle.display.specs.Sources.{names_by, texts_by}
use Rattle.display.proofs.put_records.Given as goal

abbrev pub invariant-loop-i : goal.invariant-loop-i
invariant-loop-i l =
    Appends (listing_with (names_by l.words) (texts_by l.words) (take l.i l.records.items)) (l.at, l.initial.buf)
    (l.next, l.buf)
    × (length l.buf ≡ length l.initial.buf)
