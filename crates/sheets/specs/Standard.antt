-- #112: "A writer for the standard sheet from the pool": the texts that a record can have, each under its code.
use Rattle.std.specs.Prelude.{ℕ, zero, suc, ◌+◌, ◌-◌, Bool, cond, not, ◌&&◌, List, [], ◌∷◌, ◌++◌, eqb, ltb, leb, length}
use Rattle.phrases.specs.Writing.{sheet_bytes}
use Rattle.texts.specs.Pool.{name_room, first_of, texts, bytes_at}
use Rattle.texts.specs.Rules.{message, own_words}

-- the words of messages: those of the rules from `message` to `own_words`, one after the other. No row names them: they are not a record's
unfoldable pub is_message : ℕ → Bool
is_message code = leb (first_of message.number) code && ltb code (first_of (own_words.number + 1))

-- a record can have the text of this code: it is no name's, no message's, and there is a text
unfoldable pub is_records : ℕ → Bool
is_records code = leb name_room code && (not (is_message code) && not (eqb (length (bytes_at code)) 0))

-- the phrase of a code, if it has one; those of n codes from this one on
unfoldable pub phrase_at : ℕ → List (ℕ × List ℕ)
phrase_at code = cond (is_records code) ((code, bytes_at code) ∷ []) []

unfoldable pub phrases_at : ℕ → ℕ → List (ℕ × List ℕ)
phrases_at code zero = []
phrases_at code (suc n) = phrase_at code ++ phrases_at (suc code) n

unfoldable pub standard_phrases : List (ℕ × List ℕ)
standard_phrases = phrases_at name_room (length texts - name_room)

unfoldable pub standard_sheet : List ℕ
standard_sheet = sheet_bytes standard_phrases
