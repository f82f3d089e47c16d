-- The invariant: what is said of the places so far is what was put.
use mathlib.Core.Path.{◌≡◌}
use lib.ListN.{length}
use Rattle.buffer.specs.Appending.{Appends}
use Rattle.survey_reply.specs.Replies.{said_from}
use Rattle.survey_reply.proofs.put_survey.Given as goal

abbrev pub invariant-loop-place : goal.invariant-loop-place
invariant-loop-place l =
    Appends (said_from l.all l.totals 0 l.place) (l.at, l.initial.buf) (l.next, l.buf)
    × (length l.buf ≡ length l.initial.buf)
