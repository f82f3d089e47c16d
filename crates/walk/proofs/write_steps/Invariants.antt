-- The invariant: the places written hold the first steps, the others are as they were, and the steps that are left
-- follow the last number read.
use Rattle.std.proofs.Common.{◌≡◌, ◌-◌, ◌<◌, ◌≤◌, ◌++◌, length, take, drop}
use Rattle.walk.specs.Walks.{entries_of, sequences, steps_after, steps_in}
use Rattle.walk.proofs.write_steps.Given as goal

abbrev pub invariant-loop-next : goal.invariant-loop-next
invariant-loop-next l =
    (l.at ≤ length l.block) × (l.written < l.at) × (length l.steps ≡ length l.initial.steps)
    × (l.written ≤ length l.steps) × (drop l.written l.steps ≡ drop l.written l.initial.steps)
    × (steps_in l.block ≡ take l.written l.steps ++ steps_after l.last (sequences (entries_of (drop l.at l.block))))

abbrev pub decreases-loop-next : goal.decreases-loop-next
decreases-loop-next l = length l.block - l.at
