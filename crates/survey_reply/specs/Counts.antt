-- A line of a survey read back: the label of a place and a space, then one whole number.
use Rattle.std.specs.Prelude.{ℕ, zero, suc, ◌<◌, ◌≤◌, ◌≡◌, cond, List, Option, None, Some, ltb, length, drop}
use Rattle.number.specs.Numbers.{starts_with}
use Rattle.number.specs.Rest.{whole_of}
use Rattle.number.specs.declared.Number.{Number}
use Rattle.refusals.specs.Refusals.{passed}
use Rattle.survey_reply.specs.Replies.{front, places}
use Rattle.survey_reply.specs.declared.Count.{Count}
use Rattle.survey_reply.specs.declared.Labelled.{Labelled}

-- the first of n places from k on whose label and space begin the line, or the place after them
unfoldable pub place_from : ℕ → ℕ → List ℕ → ℕ
place_from k zero line = k
place_from k (suc n) line = cond (starts_with (front k) line) k (place_from (suc k) n line)

abbrev pub place_of : List ℕ → ℕ
place_of line = place_from 0 places line

-- the place whose label and space begin a line, and the offset behind them
abbrev pub LabelOf : List ℕ → Labelled → Type 0
LabelOf line l =
    (l.place ≡ place_of line) × (l.place < places) × (l.next ≡ length (front l.place)) × (l.next ≤ length line)

abbrev pub count_from : ℕ → Number → Option Count
count_from place number = cond (passed number.refusal) (Some (record { count = number.value; place = place })) None

-- None where the line is none of a survey's
unfoldable pub read_count : List ℕ → Option Count
read_count line =
    cond (ltb (place_of line) places)
    (count_from (place_of line) (whole_of (drop (length (front (place_of line))) line)))
    None
