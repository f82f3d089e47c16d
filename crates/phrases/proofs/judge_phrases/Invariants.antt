-- The invariant: what is left of the phrases is at fault as all of them are. Each turn is one phrase.
use Prim.Native.Nat.{◌-◌, ◌≤◌}
use mathlib.Core.Path.{◌≡◌}
use Rattle.phrases.specs.Sheets.{fault, phrases_of, window}
use Rattle.phrases.proofs.judge_phrases.Given as goal

abbrev pub invariant-loop-at : goal.invariant-loop-at
invariant-loop-at l =
    (3 ≤ l.at) × (l.at ≤ l.end) × (fault 0 (phrases_of 3 (window 3 l.end l.sheet)) ≡ fault l.least
    (phrases_of l.at (window l.at l.end l.sheet)))

abbrev pub decreases-loop-at : goal.decreases-loop-at
decreases-loop-at l = l.end - l.at
