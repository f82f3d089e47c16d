-- The invariant: the slots passed hold the records, and the others what they held at entry.
use mathlib.Core.Path.{◌≡◌}
use lib.ListN.{length}
use Rattle.capi.specs.Words.{all_words}
use Rattle.bench_layouts.proofs.Laws.{so_far}
use Rattle.bench_layouts.proofs.put_records.Given as goal

abbrev pub invariant-loop-i : goal.invariant-loop-i
invariant-loop-i l =
    (length l.slots ≡ length l.initial.slots)
    × (l.slots ≡ so_far (all_words l.records) l.initial.slots l.i)
