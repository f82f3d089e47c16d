-- The invariant: what is given stands in front of the index, and from it on what was there before.
use mathlib.Core.Path.{◌≡◌}
use lib.ListN.{take, drop, replicate}
use Rattle.layouts.specs.Layouts.{layout_room}
use Rattle.layouts.proofs.padded.Given as goal

abbrev pub invariant-loop-i : goal.invariant-loop-i
invariant-loop-i g l =
    (take l.i l.all ≡ take l.i l.given) × (drop l.i l.all ≡ drop l.i (replicate layout_room l.fn.past))
