-- "Listing: a record's line, then "# " and its text if it has one, each ended by one line feed; ISS's own are indented two spaces, text
-- lines too." Names and texts of codes come from lookups that are parameters.
use Rattle.std.specs.Prelude.{ℕ, cond, List, [], ◌++◌, eqb, ltb}
use Rattle.buffer.specs.InOrder.{in_order}
use Rattle.phrases.specs.Sheets.{Text, missing, found}
use Rattle.texts.specs.Pool.{bytes}
use Rattle.records.specs.declared.Record.{Record}
use Rattle.strings.specs.Fields.{field_text}

-- "A record's line is name, ": " and the value"
unfoldable pub line_text : (ℕ → List ℕ) → Record → List ℕ
line_text lookup r = lookup r.name ++ (bytes ": " ++ field_text r.width r.value)

-- ISS's own records are those from the sixth on
unfoldable pub indent_at : ℕ → List ℕ
indent_at index = cond (ltb index 5) [] (bytes "  ")

-- the line of a text, which may be empty; #112: "a text found in neither is left out with its line"
unfoldable pub found_line : ℕ → Text → List ℕ
found_line index missing = []
found_line index (found text) = indent_at index ++ (bytes "# " ++ (text ++ bytes "\n"))

-- code 0 is no text, whatever the lookup has there
unfoldable pub text_line_with : (ℕ → Text) → ℕ → ℕ → List ℕ
text_line_with texts index code = cond (eqb code 0) [] (found_line index (texts code))

unfoldable pub record_lines_with : (ℕ → List ℕ) → (ℕ → Text) → ℕ → Record → List ℕ
record_lines_with names texts index r = indent_at index ++ (line_text names r ++ (bytes "\n" ++ text_line_with texts index r.text))

-- the lines of records, one after the other: names by one lookup, texts by another
abbrev pub listing_with : (ℕ → List ℕ) → (ℕ → Text) → List Record → List ℕ
listing_with names texts records = in_order (record_lines_with names texts) records

-- 01's: both by one lookup, which finds every text
abbrev pub every_text : (ℕ → List ℕ) → ℕ → Text
every_text lookup code = found (lookup code)

abbrev pub text_line : (ℕ → List ℕ) → ℕ → ℕ → List ℕ
text_line lookup index code = text_line_with (every_text lookup) index code

abbrev pub record_lines : (ℕ → List ℕ) → ℕ → Record → List ℕ
record_lines lookup index r = record_lines_with lookup (every_text lookup) index r

abbrev pub listing : (ℕ → List ℕ) → List Record → List ℕ
listing lookup records = listing_with lookup (every_text lookup) records
