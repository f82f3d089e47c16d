-- Why no value was made, byte for byte (#106): 02's refusals 21 and 22 in words.
use Rattle.std.specs.Prelude.{ℕ, zero, suc, ◌+◌, ◌^◌, Bool, cond, List, [], ◌++◌, eqb, leb, ltb, length, get_or}
use Rattle.digits.specs.Digits.{numeral}
use Rattle.layout_sets.specs.Outcomes.{outcome_of, sets}
use Rattle.leaf_values.specs.Leaves.{leaves_of}
use Rattle.leaf_values.specs.Values.{leaf_row}
use Rattle.make_lines.specs.Below.{below, some_below}
use Rattle.make_lines.specs.Help.{leaves_part, width_part}
use Rattle.records.specs.declared.Row.{Row}
use Rattle.texts.specs.Pool.{bytes, bytes_at}

-- whether a set of the layout has so many leaves; or fewer
abbrev pub leaves_at : ℕ → ℕ → ℕ
leaves_at number k = length (leaves_of number (outcome_of k))

unfoldable pub has_count : ℕ → ℕ → Bool
has_count number n = some_below (λ (k : ℕ). eqb (leaves_at number k) n) sets

unfoldable pub has_fewer : ℕ → ℕ → Bool
has_fewer number n = some_below (λ (k : ℕ). ltb (leaves_at number k) n) sets

-- the numbers of leaves of its sets, from the least on: no set has more than 14
unfoldable pub count_part : ℕ → ℕ → List ℕ
count_part number n = cond (has_count number n) (cond (has_fewer number n) (bytes " or ") (bytes " ") ++ numeral 10 n) []

unfoldable pub counts_part : ℕ → List ℕ
counts_part number = below (count_part number) 15

unfoldable pub class_part : ℕ → List ℕ
class_part class = bytes " of class 0x" ++ numeral 16 class

-- 21: so many leaves have no set; or some sets have so many, and none fits the values
unfoldable pub no_layout : ℕ → ℕ → ℕ → List ℕ
no_layout class number count =
    cond (has_count number count)
    (bytes "no set of " ++ leaves_part count ++ class_part class ++ bytes " has these values where they decide")
    (bytes "the number of leaves" ++ class_part class ++ bytes " is" ++ counts_part number ++ bytes ", not " ++ numeral 10 count)

-- 22: what is too wide, of IL, ISS2 and the leaves from high to low the first
unfoldable pub wider : ℕ → ℕ → List ℕ
wider x width = bytes ", 0x" ++ numeral 16 x ++ bytes ", is wider than " ++ width_part width

unfoldable pub wide_leaf : ℕ → Row → ℕ → List ℕ
wide_leaf index r x = bytes "leaf " ++ numeral 10 (index + 1) ++ bytes ", " ++ bytes_at r.name ++ wider x r.width

-- the index of the first that its row does not hold, of so many leaves from an index on; past them where each fits
unfoldable pub first_wide : ℕ → ℕ → List ℕ → ℕ → ℕ → ℕ
first_wide number iss leaves index zero = index
first_wide number iss leaves index (suc n) =
    cond (leb (2 ^ (leaf_row number iss index).width) (get_or leaves index 0)) index (first_wide number iss leaves (index + 1) n)

unfoldable pub wide_at : ℕ → ℕ → List ℕ → ℕ → List ℕ
wide_at number iss leaves index = cond (ltb index (length leaves)) (wide_leaf index (leaf_row number iss index) (get_or leaves index 0)) []

unfoldable pub too_wide : ℕ → ℕ → ℕ → ℕ → List ℕ → List ℕ
too_wide il iss2 number iss leaves =
    cond (ltb 1 il) (bytes "IL" ++ wider il 1) (cond (ltb 31 iss2) (bytes "ISS2" ++ wider iss2 5) (wide_at number iss leaves (first_wide number iss leaves 0 (length leaves))))
