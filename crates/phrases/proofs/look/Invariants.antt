-- The invariant: the code lies in what is left of the phrases where it lies in all of them. Each turn is one phrase.
use Prim.Native.Nat.{◌-◌, ◌≤◌}
use mathlib.Core.Path.{◌≡◌}
use Rattle.phrases.specs.Sheets.{place_of, place_in, phrases_of, window}
use Rattle.phrases.proofs.look.Given as goal

abbrev pub invariant-loop-at : goal.invariant-loop-at
invariant-loop-at l =
    (3 ≤ l.at) × (place_in l.sheet l.code ≡ place_of l.code (phrases_of l.at (window l.at l.end l.sheet)))

abbrev pub decreases-loop-at : goal.decreases-loop-at
decreases-loop-at l = l.end - l.at
