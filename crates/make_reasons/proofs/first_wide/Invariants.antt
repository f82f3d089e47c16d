-- The invariant says what is left: the first of all is the first from an index on.
use Prim.Native.Nat.{◌-◌}
use mathlib.Core.Path.{◌≡◌}
use lib.ListN.{length}
use Rattle.make_reasons.specs.Reasons.{first_wide}
use Rattle.make_reasons.proofs.first_wide.Given as goal

abbrev pub invariant-loop-i : goal.invariant-loop-i
invariant-loop-i l =
    first_wide l.number l.iss l.leaves 0 (length l.leaves) ≡ first_wide l.number l.iss l.leaves l.i
    (length l.leaves - l.i)
