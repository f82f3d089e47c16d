-- The records of a value for machines, and the bytes of an entry's body, byte for byte.
use Rattle.std.specs.Prelude.{ℕ, cond, List, ◌++◌, eqb, ltb}
use Rattle.digits.specs.Digits.{digits_of, numeral}
use Rattle.buffer.specs.InOrder.{in_order}
use Rattle.records.specs.Sets.{list_of}
use Rattle.records.specs.declared.Mark.{Mark}
use Rattle.records.specs.declared.Mark.TheVariants.{Free, Coded, Checked, Unchecked}
use Rattle.records.specs.declared.Record.{Record}
use Rattle.records.specs.declared.Records.{Records}
use Rattle.texts.specs.Pool.{bytes, bytes_at}

-- The body of a flash entry: each byte by two digits, after a space.

unfoldable pub byte_text : ℕ → ℕ → List ℕ
byte_text index byte = bytes " " ++ digits_of 16 2 byte

unfoldable pub body_line : List ℕ → List ℕ
body_line body = bytes "body" ++ in_order byte_text body ++ bytes "\n"

-- Records for machines, a line for each: DEPTH|NAME|LONG NAME|START|WIDTH|0xVALUE|TEXT|MARK, with `-` for a long name or a text that a record
-- does not have.

-- ISS's own records are those from the sixth on
unfoldable pub depth_at : ℕ → List ℕ
depth_at index = cond (ltb index 5) (bytes "0") (bytes "1")

-- a name or a text by its code; code 0 is none
unfoldable pub text_part : ℕ → List ℕ
text_part code = bytes "|" ++ cond (eqb code 0) (bytes "-") (bytes_at code)

unfoldable pub number_part : ℕ → List ℕ
number_part n = bytes "|" ++ numeral 10 n

-- |START|WIDTH|0xVALUE
unfoldable pub bits_part : Record → List ℕ
bits_part r = number_part r.start ++ number_part r.width ++ bytes "|0x" ++ numeral 16 r.value

-- the mark ends the line
unfoldable pub mark_part : Mark → List ℕ
mark_part Free = bytes "|free\n"
mark_part Coded = bytes "|coded\n"
mark_part Checked = bytes "|checked\n"
mark_part Unchecked = bytes "|unchecked\n"

unfoldable pub record_line : ℕ → Record → List ℕ
record_line index r = depth_at index ++ text_part r.name ++ text_part r.long ++ bits_part r ++ text_part r.text ++ mark_part r.mark

-- the lines of the records that a set counts
abbrev pub record_lines : Records → List ℕ
record_lines records = in_order record_line (list_of records)
