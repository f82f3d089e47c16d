-- The invariant: `rest` is what stands above the digits counted so far, and the count goes on from them.
use mathlib.Core.Path.{◌≡◌}
use Prim.Native.Nat.{◌-◌, ◌/◌, ◌^◌, ◌≤◌}
use Rattle.digits.specs.Digits.{enough, unpadded, radix_of}
use Rattle.digits.proofs.fewest.Given as goal

abbrev pub invariant-loop-rest : goal.invariant-loop-rest
invariant-loop-rest l =
    (l.n ≤ 64) × (l.rest ≡ l.v / radix_of l.base ^ l.n)
    × (unpadded (radix_of l.base) l.v ≡ enough (radix_of l.base) l.v l.n (64 - l.n))

abbrev pub decreases-loop-rest : goal.decreases-loop-rest
decreases-loop-rest l = l.rest
