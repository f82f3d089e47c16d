-- The lines of two readings side by side, byte for byte (#114). Each begins with a mark of two bytes; after it comes the listing's indent.
use Rattle.std.specs.Prelude.{ℕ, cond, ◌&&◌, List, [], ◌++◌, eqb}
use Rattle.display.specs.Listings.{indent_at}
use Rattle.records.specs.declared.Record.{Record}
use Rattle.strings.specs.Fields.{field_text}
use Rattle.texts.specs.Pool.{bytes, bytes_at}

unfoldable pub front_at : List ℕ → ℕ → List ℕ
front_at mark index = mark ++ indent_at index

-- a record's line as the listing has it, and the line of its text if it has one
unfoldable pub text_under : List ℕ → ℕ → ℕ → List ℕ
text_under mark index code = cond (eqb code 0) [] (front_at mark index ++ bytes "# " ++ bytes_at code ++ bytes "\n")

unfoldable pub marked_lines : List ℕ → ℕ → Record → List ℕ
marked_lines mark index x =
    front_at mark index ++ bytes_at x.name ++ bytes ": " ++ field_text x.width x.value ++ bytes "\n" ++ text_under mark index x.text

-- of a row whose record differs: the name, the first value and the second; and if either has a text, the first text or a dash, and the second
unfoldable pub text_or : ℕ → List ℕ
text_or code = cond (eqb code 0) (bytes "-") (bytes_at code)

unfoldable pub values_line : List ℕ → ℕ → Record → Record → List ℕ
values_line mark index x y =
    front_at mark index ++ bytes_at x.name ++ bytes ": " ++ field_text x.width x.value ++ bytes " | " ++ field_text y.width y.value ++ bytes "\n"

unfoldable pub texts_line : List ℕ → ℕ → ℕ → ℕ → List ℕ
texts_line mark index first second = front_at mark index ++ bytes "# " ++ text_or first ++ bytes " | " ++ text_or second ++ bytes "\n"

unfoldable pub changed_lines : List ℕ → ℕ → Record → Record → List ℕ
changed_lines mark index x y =
    values_line mark index x y ++ cond (eqb x.text 0 && eqb y.text 0) [] (texts_line mark index x.text y.text)
