-- The invariant: what is left of the checks answers as all of them do. A check that fails answers; with none left,
-- nothing is refused.
use mathlib.Core.Path.{◌≡◌}
use lib.ListN.{take, drop}
use Rattle.layouts.specs.Layouts.{table_of}
use Rattle.layouts.proofs.Indices.{rows_at, Fits}
use Rattle.esr.specs.Decode.{first_failure, failure_for}
use Rattle.esr.proofs.first_failure.Given as goal

abbrev pub invariant-loop-i : goal.invariant-loop-i
invariant-loop-i l =
    Fits l.layout
    × (failure_for (table_of l.number) l.iss ≡ first_failure l.iss
    (rows_at l.layout.rows (drop l.i (take l.layout.checked l.layout.checks))))
