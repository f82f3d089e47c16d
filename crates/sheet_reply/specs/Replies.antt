-- `esr sheet`: what is written, byte for byte.
use Rattle.std.specs.Prelude.{ℕ, zero, suc, ◌+◌, ◌-◌, Bool, true, false, cond, List, [], ◌∷◌, ◌++◌, ltb, length, drop, Result, Ok, Err}
use Rattle.buffer.specs.Appending.{appended}
use Rattle.digits.specs.Digits.{numeral}
use Rattle.phrases.specs.Writing.{phrase_bytes, word_bytes}
use Rattle.sheet_lines.specs.Lines.{code_line}
use Rattle.sheet_lines.specs.declared.Fault.{Fault}
use Rattle.sheet_lines.specs.declared.Fault.TheVariants.{None, NoCode, NoText, NotRising, TooLong}
use Rattle.sheet_lines.specs.declared.Taken.{Taken}
use Rattle.texts.specs.Pool.{name_room, texts, bytes}
use Rattle.sheet_reply.specs.declared.Added.{Added}

-- --text: the lines of the standard sheet, those of n codes from one on, and all

unfoldable pub lines_at : ℕ → ℕ → List ℕ
lines_at code zero = []
lines_at code (suc n) = code_line code ++ lines_at (suc code) n

unfoldable pub standard_lines : List ℕ
standard_lines = lines_at name_room (length texts - name_room)

-- --from: a line is a phrase, or is refused

unfoldable pub is_fault : Fault → Bool
is_fault None = false
is_fault NoCode = true
is_fault NoText = true
is_fault NotRising = true
is_fault TooLong = true

-- the phrase of a line that is taken
abbrev pub phrase_of : List ℕ → Taken → List ℕ
phrase_of line t = phrase_bytes (t.code, drop t.start line)

-- what a line adds: its bytes, and the code that the next line must have at least; or why it is refused
abbrev pub adds : List ℕ → Result Taken Fault → Result (List ℕ × ℕ) Fault
adds line (Ok t) = Ok (phrase_of line t, t.code + 1)
adds line (Err fault) = Err fault

-- the same as an answer: the next offset, and the buffer, which a line that is refused leaves as it was
abbrev pub answer_of : ℕ → ℕ × List ℕ → Result Added Fault × List ℕ
answer_of least (next, after) = (Ok (record { next = next; least = least }), after)

abbrev pub added_of : Result (List ℕ × ℕ) Fault → ℕ × List ℕ → Result Added Fault × List ℕ
added_of (Ok (what, least)) from = answer_of least (appended what from)
added_of (Err fault) (at, before) = (Err fault, before)

-- the front of a sheet, whose phrases have so many bytes
unfoldable pub head_bytes : ℕ → List ℕ
head_bytes count = cond (ltb 65534 count) [] (word_bytes (1 + count) ++ (1 ∷ []))

-- why a line is refused
unfoldable pub fault_words : Fault → List ℕ
fault_words None = bytes "it is a phrase\n"
fault_words NoCode = bytes "it begins with no number\n"
fault_words NoText = bytes "no text has this code\n"
fault_words NotRising = bytes "its code is not above the one before it\n"
fault_words TooLong = bytes "its text has more than 255 bytes\n"

unfoldable pub fault_line : ℕ → Fault → List ℕ
fault_line line fault = bytes "refused: line " ++ (numeral 10 line ++ (bytes ": " ++ fault_words fault))
