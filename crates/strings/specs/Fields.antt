-- A field's two value strings, and both as they stand in a record's line.
use Rattle.std.specs.Prelude.{ℕ, ◌+◌, ◌/◌, cond, List, [], ◌++◌, eqb}
use Rattle.texts.specs.Pool.{bytes}
use Rattle.digits.specs.Digits.{digits_of}
use Rattle.strings.specs.declared.Form.{Form}
use Rattle.strings.specs.declared.Form.TheVariants.{Value, Binary}

-- "width 1 prints true or false, wider "0x" and ceil(width/4) digits, small letters"
unfoldable pub value_text : ℕ → ℕ → List ℕ
value_text width value =
    cond (eqb width 1)
    (cond (eqb value 1) (bytes "true") (bytes "false"))
    (bytes "0x" ++ digits_of 16 ((width + 3) / 4) value)

-- "the binary string is "0b" and width digits for width 1 too"
unfoldable pub binary_text : ℕ → ℕ → List ℕ
binary_text width value = bytes "0b" ++ digits_of 2 width value

-- either, by which of the two it is
abbrev pub string_text : Form → ℕ → ℕ → List ℕ
string_text Value width value = value_text width value
string_text Binary width value = binary_text width value

-- "A record's line is name, ": " and the value"; where it is wider than 1, "a space, "0b" and width digits"
unfoldable pub binary_suffix : ℕ → ℕ → List ℕ
binary_suffix width value = cond (eqb width 1) [] (bytes " " ++ binary_text width value)

-- the value as it stands in the line
unfoldable pub field_text : ℕ → ℕ → List ℕ
field_text width value = value_text width value ++ binary_suffix width value
