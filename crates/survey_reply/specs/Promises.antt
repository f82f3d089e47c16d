-- What each public function promises: of what comes in, with what lent memory holds before, what comes out, with what it holds after.
use Rattle.std.specs.Prelude.{ℕ, Bool, List, Option, ◌≡◌}
use Rattle.buffer.specs.Appending.{Appends}
use Rattle.survey_reply.specs.Counts.{read_count}
use Rattle.survey_reply.specs.Replies.{survey_text}
use Rattle.survey_reply.specs.Sums.{add_count, add_run}
use Rattle.survey_reply.specs.declared.Count.{Count}

-- what a survey says of these totals
abbrev pub SurveyPut : List ℕ × ℕ × List ℕ × Bool → ℕ × List ℕ → Type 0
SurveyPut (before, at, totals, all) out = Appends (survey_text all totals) (at, before) out

-- the place and the count of a line; None where it is none of a survey's
abbrev pub CountRead : List ℕ → Option Count → Type 0
CountRead line r = r ≡ read_count line

-- one count more in the totals
abbrev pub CountAdded : List ℕ × ℕ × ℕ → Bool × List ℕ → Type 0
CountAdded (totals, place, count) out = out ≡ add_count totals place count

-- the counts of a run more
abbrev pub RunAdded : List ℕ × List ℕ × List ℕ × ℕ → Bool × List ℕ → Type 0
RunAdded (totals, counts, refused, none) out = out ≡ add_run totals counts refused none
