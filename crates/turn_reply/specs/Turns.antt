-- `esr turn`: what is said of a value, a field and a number (#114).
use Rattle.std.specs.Prelude.{ℕ, cond, List, [], ◌∷◌, map, set}
use Rattle.buffer.specs.Appending.{Appends}
use Rattle.esr.specs.Decode.{answer_of}
use Rattle.make_reply.specs.Promises as make
use Rattle.records.specs.Rows.{value_in}
use Rattle.refusals.specs.Refusals.{passed}
use Rattle.reply_lines.specs.Lines.{number_line, refusal_line}
use Rattle.texts.specs.Pool.{bytes}
use Rattle.turn_fields.specs.Fields.{fields_of, place_of}
use Rattle.turn_fields.specs.declared.Found.{Found}
use Rattle.turn_fields.specs.declared.Found.TheVariants.{Nowhere, Once, Several}

-- what the fields hold, ISS2, the class, IL and the leaves of ISS, with one of them set; the others are as they are
unfoldable pub turned : ℕ → ℕ → ℕ → List ℕ
turned v index number = set (map (value_in v) (fields_of v)) index number

-- a text; or what the maker is to make: a class, an IL, an ISS2 and leaves
pub data Turn : Type 0 where
  told : List ℕ → Turn
  made : ℕ → ℕ → ℕ → List ℕ → Turn

-- there are three fields above ISS
abbrev pub made_of : List ℕ → Turn
made_of [] = told []
made_of (iss2 ∷ []) = told []
made_of (iss2 ∷ class ∷ []) = told []
made_of (iss2 ∷ class ∷ il ∷ leaves) = made class il iss2 leaves

-- no such field, several with that name (DECISIONS 110); or the one is set
unfoldable pub turn_at : ℕ → Found → ℕ → Turn
turn_at v Nowhere number = told (bytes "refused: no field of this value is named so\n")
turn_at v (Once index) number = made_of (turned v index number)
turn_at v (Several p) number = told (bytes "refused: several fields are named so; give the lowest bit of one\n")

-- a value that is refused is answered by its refusal line
unfoldable pub turn_of : ℕ → List ℕ → ℕ → Turn
turn_of v word number = cond (passed (answer_of v).refusal) (turn_at v (place_of v word) number) (told (refusal_line (answer_of v).refusal))

-- the text is put, or what the maker says
abbrev pub Said : Turn → ℕ × List ℕ → ℕ × List ℕ → Type 0
Said (told text) from out = Appends text from out
Said (made class il iss2 leaves) from out = make.Said class il iss2 leaves from out

-- another count of numbers than two
unfoldable pub not_both : ℕ → List ℕ
not_both count = number_line (bytes "refused: VALUE FIELD NUMBER are asked for; numbers given: ") 10 count
