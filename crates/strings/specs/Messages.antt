-- "Refusal messages 1 to 7 are the Rust's, with unpadded hex." #105: that of 1 "gains ", bits 16..25" in that manner, after the hex number, start
-- first and the end not counted".
use Rattle.std.specs.Prelude.{ℕ, ◌+◌, Bool, cond, ◌&&◌, List, [], ◌++◌, eqb, leb}
use Rattle.buffer.specs.Lent.{part_in}
use Rattle.digits.specs.Digits.{numeral}
use Rattle.texts.specs.Pool.{bytes, description_of, text_code}
use Rattle.texts.specs.Rules.{message, message_end}

-- the bits of 1's field; messages 2 to 7 name none
unfoldable pub bits_text : ℕ → ℕ → ℕ → List ℕ
bits_text number start width = cond (eqb number 1) (numeral 10 start ++ (bytes ".." ++ numeral 10 (start + width))) []

unfoldable pub message_text : ℕ → ℕ → ℕ → ℕ → List ℕ
message_text number carried start width =
    bytes (description_of message.number number)
    ++ (bytes "0x" ++ (numeral 16 carried ++ (bytes (description_of message_end.number number) ++ bits_text number start width)))

abbrev pub has_message : ℕ → Bool
has_message number = leb 1 number && leb number 7

-- the same of a pool and starts that are lent, whatever they hold
unfoldable pub message_in : List ℕ → List ℕ → ℕ → ℕ → ℕ → ℕ → List ℕ
message_in lent starting number carried start width =
    part_in lent starting (text_code message.number number)
    ++ (bytes "0x" ++ (numeral 16 carried ++ (part_in lent starting (text_code message_end.number number) ++ bits_text number start width)))
