-- The top records written into the empty set are the set of the five; from there the invariant: the set is the top
-- records with those of the rows walked so far, and each turn writes one record after them.
use mathlib.Core.Path.{◌≡◌}
use mathlib.Core.List.{map}
use lib.ListN.{take}
use Rattle.records.specs.Rows.{record_of}
use Rattle.records.specs.Sets.{records_of}
use Rattle.records.proofs.Laws.{pushed_all}
use Rattle.layouts.proofs.Indices.{Fits}
use Rattle.tables.specs.Tables.{top_rows}
use Rattle.esr.proofs.all_records.Given as goal

abbrev pub invariant-loop-i : goal.invariant-loop-i
invariant-loop-i l =
    Fits l.layout
    × (l.out ≡ pushed_all (records_of (map (record_of l.esr) (top_rows l.layout.rule)))
    (map (record_of l.iss) (take l.i l.layout.rows)))
