-- The lines of an input, taken one after the other, each as one whole number; and the same a byte at a time, as a program reads them. The theorems hold the
-- second to the first.
use Rattle.std.specs.Prelude.{ℕ, ◌+◌, ◌-◌, ◌^◌, Bool, true, cond, not, ◌&&◌, ◌||◌, List, [], ◌∷◌, ◌++◌, ◌≡◌, eqb, length, set, take, drop}
use Rattle.given_numbers.specs.declared.Given.{Given}
use Rattle.given_numbers.specs.declared.Reading.{Reading}
use Rattle.line_reader.specs.Lines.{finish_by, line_feed, line_number}
use Rattle.line_reader.specs.declared.Rest.TheVariants.{Whole}
use Rattle.number.specs.Steps.{start, step_of, has_character}
use Rattle.number.specs.declared.Number.{Number}
use Rattle.number.specs.declared.NumberState.{NumberState}
use Rattle.refusals.specs.Refusals.{no_refusal, passed}

-- The lines. What is given stands beside the places that its numbers are kept in.

-- before the first line
abbrev pub nothing : Given
nothing = record { count = 0; place = 0; refusal = no_refusal }

-- a usize counts no further
abbrev pub most_lines : ℕ
most_lines = 2 ^ 64 - 1

-- no line is taken behind one that held no number, and none that cannot be counted
abbrev pub is_shut : Given → Bool
is_shut g = not (passed g.refusal) || eqb g.count most_lines

-- one line more. A number goes to the place of its line: where there is none so far out, `set` leaves the places as they are. A line that holds none is
-- remembered by how many lines there are with it, and why
unfoldable pub take_number : Given × List ℕ → Number → Given × List ℕ
take_number (g, kept) n =
    cond (is_shut g) (g, kept)
    (cond (passed n.refusal)
    (record { count = g.count + 1; place = 0; refusal = n.refusal }, set kept g.count n.value)
    (record { count = g.count + 1; place = g.count + 1; refusal = n.refusal }, kept))

-- a line is one whole number: only stops may stand behind it
abbrev pub in_line : List ℕ → Number
in_line line = line_number Whole line

unfoldable pub take_lines : Given × List ℕ → List (List ℕ) → Given × List ℕ
take_lines s [] = s
take_lines s (line ∷ lines) = take_lines (take_number s (in_line line)) lines

-- The bytes. A line has a state as far as it was read.

-- before the first byte
abbrev pub at_start : Reading
at_start = record { line = start; given = nothing }

-- the line as far as it was read is a line
abbrev pub end_line : Reading × List ℕ → Given × List ℕ
end_line (r, kept) = take_number (r.given, kept) (finish_by Whole r.line)

-- before the first byte of the next line
abbrev pub next_line : Given × List ℕ → Reading × List ℕ
next_line (g, kept) = (record { line = start; given = g }, kept)

-- further in the line
abbrev pub on_line : Reading → NumberState → Reading
on_line r st = record { line = st; given = r.given }

-- a line feed ends the line; any other byte is one of the line
abbrev pub take_byte : Reading × List ℕ → ℕ → Reading × List ℕ
take_byte (r, kept) b = cond (eqb b line_feed) (next_line (end_line (r, kept))) (on_line r (step_of r.line b), kept)

unfoldable pub take_bytes : Reading × List ℕ → List ℕ → Reading × List ℕ
take_bytes s [] = s
take_bytes s (b ∷ bs) = take_bytes (take_byte s b) bs

-- at the end of the input: a last line without a line feed is one if it has a byte
unfoldable pub take_last : Reading × List ℕ → Given × List ℕ
take_last (r, kept) = cond (has_character r.line.stage) (end_line (r, kept)) (r.given, kept)

-- the parts of an input, one after the other, to its end
unfoldable pub take_parts : Reading × List ℕ → List (List ℕ) → Given × List ℕ
take_parts s [] = take_last s
take_parts s (part ∷ parts) = take_parts (take_bytes s part) parts

-- What is to come of lines.

abbrev pub holds_number : List ℕ → Bool
holds_number line = passed (in_line line).refusal

unfoldable pub all_hold : List (List ℕ) → Bool
all_hold [] = true
all_hold (line ∷ lines) = holds_number line && all_hold lines

unfoldable pub values_of : List (List ℕ) → List ℕ
values_of [] = []
values_of (line ∷ lines) = (in_line line).value ∷ values_of lines

-- the values in order, as far as there are places; places that are left over stay as they were
abbrev pub kept_of : List ℕ → List (List ℕ) → List ℕ
kept_of kept lines = take (length kept) (values_of lines) ++ drop (length lines) kept

-- of lines that each hold a number
pub record AllGiven (kept : List ℕ) (lines : List (List ℕ)) (out : Given × List ℕ) : Type 0 where
  pub count : out.0.count ≡ length lines
  pub place : out.0.place ≡ 0
  pub refusal : passed out.0.refusal ≡ true
  pub values : out.1 ≡ kept_of kept lines

-- of lines that each hold a number, one that holds none, and any others behind it
pub record FirstNone (kept : List ℕ) (before : List (List ℕ)) (line : List ℕ) (out : Given × List ℕ) : Type 0 where
  pub count : out.0.count ≡ length before + 1
  pub place : out.0.place ≡ length before + 1
  pub refusal : out.0.refusal ≡ (in_line line).refusal
  pub values : out.1 ≡ kept_of kept before
