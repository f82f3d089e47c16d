-- The refusals that a value can have, and the place of each among them: what a survey counts by.
use Rattle.std.specs.Prelude.{ℕ, ◌==◌, List, [], ◌∷◌, Option, get_or, position}

-- 01's 1 to 7, and those that strict reading adds (#110)
unfoldable pub value_numbers : List ℕ
value_numbers = 1 ∷ 2 ∷ 3 ∷ 4 ∷ 5 ∷ 6 ∷ 7 ∷ 24 ∷ 25 ∷ []

-- the number at a place; 0 past the last
abbrev pub value_number : ℕ → ℕ
value_number place = get_or value_numbers place 0

-- the place of a number; None where it is none of them
unfoldable pub value_place : ℕ → Option ℕ
value_place n = position (λ m. m == n) value_numbers
