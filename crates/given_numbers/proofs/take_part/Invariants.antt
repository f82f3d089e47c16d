-- The invariant says what is left: the answer is that of the reading so far on the rest of the part.
use Prim.Native.Nat.{ℕ, ◌-◌}
use mathlib.Core.List.{List}
use mathlib.Core.Path.{◌≡◌}
use lib.ListN.{length, drop}
use Rattle.given_numbers.specs.Given.{take_bytes}
use Rattle.given_numbers.specs.declared.Given.{Given}
use Rattle.given_numbers.specs.declared.Reading.{Reading}
use Rattle.number.specs.declared.NumberState.{NumberState}
use Rattle.given_numbers.proofs.take_part.Given as goal

-- what is read so far
abbrev pub so_far : NumberState → Given → List ℕ → Reading × List ℕ
so_far line given numbers = (record { line = line; given = given }, numbers)

abbrev pub invariant-loop-next : goal.invariant-loop-next
invariant-loop-next l =
    (take_bytes (so_far l.initial.line l.initial.given l.initial.numbers) (drop l.initial.next l.part)
    ≡ take_bytes (so_far l.line l.given l.numbers) (drop l.next l.part))
    × (length l.numbers ≡ length l.initial.numbers)

abbrev pub decreases-loop-next : goal.decreases-loop-next
decreases-loop-next l = length l.part - l.next
