-- The invariant: the sum so far and what is left add up, modulo 2^64, to what all fields do.
use Rattle.std.proofs.Common.{◌≡◌, ◌+◌, ◌%◌, ◌^◌, ◌<◌, take, drop}
use Rattle.reading.specs.Leaves.{added_up}
use Rattle.reading.proofs.sum_of.Given as goal

abbrev pub invariant-loop-i : goal.invariant-loop-i
invariant-loop-i l =
    (added_up (drop l.from (take l.to l.records.items)) % 2 ^ 64
    ≡ (l.sum + added_up (drop l.i (take l.to l.records.items))) % 2 ^ 64)
    × (l.sum < 2 ^ 64)
