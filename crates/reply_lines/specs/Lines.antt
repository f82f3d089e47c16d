-- The lines that every reply is made of, byte for byte.
use Rattle.std.specs.Prelude.{ℕ, cond, List, [], ◌++◌, eqb}
use Rattle.digits.specs.Digits.{numeral}
use Rattle.refusals.specs.Refusals.{refusal_number}
use Rattle.refusals.specs.declared.Refusal.{Refusal}
use Rattle.strings.specs.Messages.{has_message, message_text}
use Rattle.texts.specs.Pool.{bytes, description_of}
use Rattle.texts.specs.Rules.{own_words}

-- a line that ends with a number, in this base
unfoldable pub number_line : List ℕ → ℕ → ℕ → List ℕ
number_line front base n = front ++ numeral base n ++ bytes "\n"

-- The refusals of a value, 1 to 7, have the Rust's message, those of lines, of entries, of strict reading and of sheets words of our own. The others are not said of a
-- line or of an entry, and have no words.
unfoldable pub why : Refusal → List ℕ
why f =
    cond (has_message (refusal_number f))
    (message_text (refusal_number f) f.carries f.start f.width)
    (bytes (description_of own_words.number (refusal_number f)))

-- refused N
unfoldable pub refused_by : Refusal → List ℕ
refused_by f = bytes "refused " ++ numeral 10 (refusal_number f)

-- refused N: WHY
unfoldable pub refusal_line : Refusal → List ℕ
refusal_line f = refused_by f ++ bytes ": " ++ why f ++ bytes "\n"

-- refused N carried=0xH WHY; of 1, refused 1 carried=0xH start=S width=W WHY (#105)
unfoldable pub field_part : Refusal → List ℕ
field_part f = cond (eqb (refusal_number f) 1) (bytes " start=" ++ numeral 10 f.start ++ bytes " width=" ++ numeral 10 f.width) []

unfoldable pub carried_line : Refusal → List ℕ
carried_line f = refused_by f ++ bytes " carried=0x" ++ numeral 16 f.carries ++ field_part f ++ bytes " " ++ why f ++ bytes "\n"
