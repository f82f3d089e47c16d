-- A sheet in lines to translate: a code in decimal, a space and its text; and such a line read back as a phrase.
use Rattle.std.specs.Prelude.{ℕ, ◌+◌, ◌-◌, cond, List, [], ◌++◌, ltb, length, Result, Ok, Err}
use Rattle.digits.specs.Digits.{numeral}
use Rattle.number.specs.Rest.{read_of}
use Rattle.number.specs.declared.NumberRead.{NumberRead}
use Rattle.refusals.specs.declared.Refusal.{Refusal}
use Rattle.sheets.specs.Standard.{is_records}
use Rattle.texts.specs.Pool.{bytes, bytes_at}
use Rattle.sheet_lines.specs.declared.Fault.{Fault}
use Rattle.sheet_lines.specs.declared.Fault.TheVariants.{NoCode, NoText, NotRising, TooLong}
use Rattle.sheet_lines.specs.declared.Taken.{Taken}

-- the line of a code that the standard sheet has
unfoldable pub code_line : ℕ → List ℕ
code_line code = cond (is_records code) (numeral 10 code ++ (bytes " " ++ (bytes_at code ++ bytes "\n"))) []

-- A line read back: a number, one byte that ends it, and the rest is the text.

-- where the text begins; a line that ends with the number has an empty one
abbrev pub text_start : List ℕ → ℕ → ℕ
text_start line taken = cond (ltb taken (length line)) (taken + 1) taken

-- the phrase of a number that was read, where the next code must be this at least
abbrev pub taken_by : List ℕ → ℕ → Result NumberRead Refusal → Result Taken Fault
taken_by line least (Err f) = Err NoCode
taken_by line least (Ok n) =
    cond (is_records n.value)
    (cond (ltb n.value least) (Err NotRising)
    (cond (ltb 255 (length line - text_start line n.taken)) (Err TooLong)
    (Ok (record { start = text_start line n.taken; code = n.value }))))
    (Err NoText)

unfoldable pub taken_of : List ℕ → ℕ → Result Taken Fault
taken_of line least = taken_by line least (read_of line)
