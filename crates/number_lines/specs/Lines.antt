-- The numbers of lines in order, and how many lines hold none (02's #101).
use Rattle.std.specs.Prelude.{ℕ, suc, Bool, cond, List, [], ◌∷◌}
use Rattle.line_reader.specs.Lines.{line_number}
use Rattle.line_reader.specs.declared.Rest.TheVariants.{Skipped}
use Rattle.number.specs.declared.Number.{Number}
use Rattle.refusals.specs.Refusals.{passed}

-- a line holds a number: it begins with one, and the rest of the line is skipped (#107)
abbrev pub in_line : List ℕ → Number
in_line line = line_number Skipped line

abbrev pub holds_number : List ℕ → Bool
holds_number line = passed (in_line line).refusal

unfoldable pub numbers_of : List (List ℕ) → List ℕ
numbers_of [] = []
numbers_of (line ∷ lines) = cond (holds_number line) ((in_line line).value ∷ numbers_of lines) (numbers_of lines)

unfoldable pub none_of : List (List ℕ) → ℕ
none_of [] = 0
none_of (line ∷ lines) = cond (holds_number line) (none_of lines) (suc (none_of lines))
