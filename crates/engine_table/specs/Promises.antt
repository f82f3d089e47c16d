-- What each public function promises. A promise takes what comes in, then what comes out.
use Rattle.std.specs.Prelude.{ℕ, ◌≡◌}
use Rattle.lookup.specs.Descriptions.{numbers_of}
use Rattle.engine_table.specs.Packed.{row_word, place_word, check_word}

abbrev pub RowWord : ℕ → ℕ → Type 0
RowWord index r = r ≡ row_word index

abbrev pub PlaceWord : ℕ → ℕ → Type 0
PlaceWord class r = r ≡ place_word class

abbrev pub CheckWord : ℕ → ℕ → Type 0
CheckWord class r = r ≡ check_word class

-- a rule in numbers: the values that it has a text for, as bits, and its first code
abbrev pub ValuesOf : ℕ → ℕ → Type 0
ValuesOf rule r = r ≡ (numbers_of rule).0

abbrev pub FirstText : ℕ → ℕ → Type 0
FirstText rule r = r ≡ (numbers_of rule).1
