-- A part of the input, as far as a line goes: number's own step for each byte; where a line ends; the lines of a whole input; and the number of a line, by what is done with its rest.
use Prim.Native.Char.{code}
use Rattle.std.specs.Prelude.{ℕ, ◌+◌, Bool, true, false, cond, not, ◌&&◌, List, [], ◌∷◌, ◌++◌, eqb}
use Rattle.line_reader.specs.declared.LinePart.{LinePart}
use Rattle.line_reader.specs.declared.Rest.{Rest}
use Rattle.line_reader.specs.declared.Rest.TheVariants.{Whole, Skipped}
use Rattle.number.specs.Numbers.{number_of}
use Rattle.number.specs.Rest.{before_stop, whole_of}
use Rattle.number.specs.Steps.{step_of, finish_of, finish_before_of}
use Rattle.number.specs.declared.Number.{Number}
use Rattle.number.specs.declared.NumberState.{NumberState}
use Rattle.words.specs.Words.{same}

abbrev pub line_feed : ℕ
line_feed = code "\n"

-- bytes from an offset on, as far as the first line feed, which is passed over
unfoldable pub part_of : NumberState → ℕ → List ℕ → LinePart
part_of st at [] = record { state = st; next = at; ended = false }
part_of st at (b ∷ bs) = cond (eqb b line_feed) (record { state = st; next = at + 1; ended = true }) (part_of (step_of st b) (at + 1) bs)

-- the offset of the first line feed, from an offset on, or of the end
unfoldable pub line_end : ℕ → List ℕ → ℕ
line_end at [] = at
line_end at (b ∷ bs) = cond (eqb b line_feed) at (line_end (at + 1) bs)

-- bytes of one line
unfoldable pub one_line : List ℕ → Bool
one_line [] = true
one_line (b ∷ bs) = not (eqb b line_feed) && one_line bs

-- a byte in front of the first line, or alone on one
abbrev pub in_front : ℕ → List (List ℕ) → List (List ℕ)
in_front b [] = (b ∷ []) ∷ []
in_front b (line ∷ lines) = (b ∷ line) ∷ lines

-- "an unended last one counts"; after a last line feed there is no line
unfoldable pub lines_of : List ℕ → List (List ℕ)
lines_of [] = []
lines_of (b ∷ bs) = cond (eqb b line_feed) ([] ∷ lines_of bs) (in_front b (lines_of bs))

-- an input that comes in parts, whole
unfoldable pub joined : List (List ℕ) → List ℕ
joined [] = []
joined (part ∷ parts) = part ++ joined parts

-- the number of a line: all of it, or as far as a remark
abbrev pub line_number : Rest → List ℕ → Number
line_number Whole s = whole_of s
line_number Skipped s = number_of (before_stop s)

-- the same by the state that its bytes lead to
abbrev pub finish_by : Rest → NumberState → Number
finish_by Whole st = finish_of st
finish_by Skipped st = finish_before_of st

-- the option "--remarks"
abbrev pub remarks : List ℕ
remarks = code "-" ∷ code "-" ∷ code "r" ∷ code "e" ∷ code "m" ∷ code "a" ∷ code "r" ∷ code "k" ∷ code "s" ∷ []

abbrev pub rest_asked : List ℕ → Rest
rest_asked option = cond (same option remarks) Skipped Whole
