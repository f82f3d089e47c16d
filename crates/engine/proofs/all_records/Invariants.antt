-- The invariant: what is written, with the rows that are left, is the whole; each turn writes one record or passes a
-- row over.
use Prim.Native.Nat.{◌-◌}
use Rattle.records.specs.Sets.{records_of}
use Rattle.engine.specs.Engine.{rows_from, records_by}
use Rattle.engine.proofs.Laws.{Writes}
use Rattle.engine.proofs.all_records.Given as goal

abbrev pub invariant-loop-at : goal.invariant-loop-at
invariant-loop-at l =
    Writes (records_of (records_by l.esr l.class l.iss)) l.iss l.out
    (rows_from l.answers l.at (l.at-end - l.at))
