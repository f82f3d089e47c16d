-- The invariant: what was put, with what is left, is the whole.
use Prim.Native.Nat.{◌+◌, ◌-◌, ◌≤◌}
use mathlib.Core.Path.{◌≡◌}
use lib.ListN.{length}
use Rattle.records.specs.Sets.{list_of}
use Rattle.diff_reply.specs.Steps.{Puts}
use Rattle.diff_reply.proofs.Pair.put_side_by_side.Given as goal

abbrev pub invariant-loop-turn : goal.invariant-loop-turn
invariant-loop-turn l =
    let xs = list_of l.self.first.now in
    let ys = list_of l.self.second.now in
    (l.turn.first ≤ length xs) × (l.turn.second ≤ length ys)
    × Puts l.self.v l.self.w xs ys 0 0 (l.at, l.initial.buf) l.turn.first l.turn.second (l.turn.next, l.buf)
    × (length l.buf ≡ length l.initial.buf)

abbrev pub decreases-loop-turn : goal.decreases-loop-turn
decreases-loop-turn l = l.all - (l.turn.first + l.turn.second)
