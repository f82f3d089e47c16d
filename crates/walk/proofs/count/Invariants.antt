-- The invariant: those counted so far and those of what is left are all. An entry has 13 bytes, so that no count
-- passes the block's length.
use Rattle.std.proofs.Common.{◌≡◌, ◌+◌, ◌-◌, ◌≤◌, length, drop}
use Rattle.walk.specs.Walks.{decoded_in, entries_of}
use Rattle.walk.proofs.count.Given as goal

abbrev pub invariant-loop-entry : goal.invariant-loop-entry
invariant-loop-entry l =
    (l.at ≤ length l.block) × (l.entries ≤ l.at) × (l.decoded ≤ l.entries)
    × (length (entries_of l.block) ≡ l.entries + length (entries_of (drop l.at l.block)))
    × (decoded_in l.profile (entries_of l.block) ≡ l.decoded + decoded_in l.profile (entries_of (drop l.at l.block)))

abbrev pub decreases-loop-entry : goal.decreases-loop-entry
decreases-loop-entry l = length l.block - l.at
