-- The invariant says what is left: the answer is that of the state so far on the rest of the part.
use Prim.Native.Nat.{◌≤◌, max}
use mathlib.Core.Path.{◌≡◌}
use lib.ListN.{length, drop}
use Rattle.line_reader.specs.Lines.{part_of}
use Rattle.line_reader.proofs.take_line.Given as goal

abbrev pub invariant-loop-at : goal.invariant-loop-at
invariant-loop-at l =
    (part_of l.initial.state l.fn.from (drop l.fn.from l.s) ≡ part_of l.state l.at (drop l.at l.s))
    × (l.at ≤ max l.fn.from (length l.s))
