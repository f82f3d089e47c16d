-- The invariant: what is filled, with the rows that are left, is the whole; each turn fills one slot or passes a row
-- over.
use mathlib.Core.List.{map}
use Prim.Native.Nat.{◌+◌, ◌-◌}
use lib.ListN.{length}
use lib.Seq.{sets}
use Rattle.engine.specs.Engine.{rows_from}
use Rattle.engine.specs.Words.{slot_of}
use Rattle.engine.proofs.Filling.{Fills}
use Rattle.engine.proofs.slots.row_slots.Given as goal

abbrev pub invariant-loop-at : goal.invariant-loop-at
invariant-loop-at l =
    Fills (5 + length (rows_from l.answers l.first l.count))
    (sets l.initial.slots 5 (map (slot_of l.iss) (rows_from l.answers l.first l.count))) l.iss l.slots l.next
    (rows_from l.answers l.at (l.first + l.count - l.at))
