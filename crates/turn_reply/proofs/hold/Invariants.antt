-- The invariant: the numbers so far are written.
use mathlib.Core.Path.{◌≡◌}
use lib.ListN.{length, take}
use lib.Seq.{sets}
use Rattle.turn_reply.specs.Turns.{turned}
use Rattle.turn_reply.proofs.hold.Given as goal

abbrev pub invariant-loop-i : goal.invariant-loop-i
invariant-loop-i l =
    (length l.numbers ≡ length l.initial.numbers)
    × (l.numbers ≡ sets l.initial.numbers 0 (take l.i (turned l.esr l.index l.number)))
