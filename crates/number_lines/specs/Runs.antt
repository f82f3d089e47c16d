-- Lines taken into a run, a byte at a time. The theorems hold this to the lines of the whole input.
use Rattle.std.specs.Prelude.{ℕ, ◌+◌, Bool, cond, List, [], ◌∷◌, ◌≡◌, eqb, leb, length, set, take}
use Rattle.line_reader.specs.Lines.{line_feed}
use Rattle.number.specs.Steps.{start, step_of, finish_before_of, has_character}
use Rattle.number.specs.declared.NumberState.{NumberState}
use Rattle.number_lines.specs.Lines.{numbers_of, none_of}
use Rattle.number_lines.specs.declared.Lines.{Lines}
use Rattle.number_lines.specs.declared.LinesPart.{LinesPart}
use Rattle.refusals.specs.Refusals.{passed}

-- before the first line
abbrev pub no_lines : Lines
no_lines = record { line = start; numbers = 0; none = 0 }

-- each line that was taken stands for a place of the run
abbrev pub is_full : Lines → ℕ → Bool
is_full l places = leb places (l.numbers + l.none)

abbrev pub on_line : Lines → NumberState → Lines
on_line l st = record { line = st; numbers = l.numbers; none = l.none }

-- the line has ended: its number goes to the run's next place, or it held none
unfoldable pub end_line : Lines → List ℕ → Lines × List ℕ
end_line l run =
    cond (is_full l (length run)) (l, run)
    (cond (passed (finish_before_of l.line).refusal)
    (record { line = start; numbers = l.numbers + 1; none = l.none }, set run l.numbers (finish_before_of l.line).value)
    (record { line = start; numbers = l.numbers; none = l.none + 1 }, run))

-- bytes from an offset on, until they end or the run is full
unfoldable pub take_from : Lines → List ℕ → ℕ → List ℕ → LinesPart × List ℕ
take_from l run at [] = (record { lines = l; next = at }, run)
take_from l run at (b ∷ bs) =
    cond (is_full l (length run)) (record { lines = l; next = at }, run)
    (cond (eqb b line_feed)
    (take_from (end_line l run).0 (end_line l run).1 (at + 1) bs)
    (take_from (on_line l (step_of l.line b)) run (at + 1) bs))

-- a last line without a line feed is one if it has a character
unfoldable pub take_last : Lines → List ℕ → Lines × List ℕ
take_last l run = cond (has_character l.line.stage) (end_line l run) (l, run)

-- the parts of an input, one after the other, to its end
unfoldable pub take_parts : Lines → List ℕ → List (List ℕ) → Lines × List ℕ
take_parts l run [] = take_last l run
take_parts l run (part ∷ parts) = take_parts (take_from l run 0 part).0.lines (take_from l run 0 part).1 parts

-- what a run holds in the end of these lines: their numbers, in order, and how many of them held none
pub record Holds (lines : List (List ℕ)) (out : Lines × List ℕ) : Type 0 where
  pub numbers : out.0.numbers ≡ length (numbers_of lines)
  pub values : take out.0.numbers out.1 ≡ numbers_of lines
  pub none : out.0.none ≡ none_of lines
