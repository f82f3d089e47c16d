-- The invariant says what is left: the search goes on from an index with what was found so far.
use Prim.Native.Nat.{◌≤◌}
use mathlib.Core.Path.{◌≡◌}
use lib.ListN.{drop}
use Rattle.turn_fields.specs.Fields.{count_of, fields_of, meant, seek_from, seek_in}
use Rattle.turn_fields.proofs.seek.Given as goal

abbrev pub invariant-loop-i : goal.invariant-loop-i
invariant-loop-i l =
    (count_of l.found ≤ l.i) ×
    (seek_in (meant l.by) (fields_of l.esr) ≡ seek_from (meant l.by) l.i l.found
    (drop l.i (fields_of l.esr)))
