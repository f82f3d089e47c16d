-- The invariant says what is left: the answer is among the places from this one on. Of each the label and the space are
-- put, which fit the buffer.
use Prim.Native.Nat.{◌-◌}
use mathlib.Core.Path.{◌≡◌}
use lib.ListN.{length}
use Rattle.survey_reply.specs.Counts.{place_from, place_of}
use Rattle.survey_reply.proofs.find_label.Given as goal

abbrev pub invariant-loop-place : goal.invariant-loop-place
invariant-loop-place l = (length l.text ≡ 16) × (place_of l.line ≡ place_from l.place (74 - l.place) l.line)
