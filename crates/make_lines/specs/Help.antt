-- What `esr make --help` says of the sets of leaves that a layout can have, byte for byte: how many leaves each has, and of each leaf its place, its names, its
-- width and the values that it may have.
use Rattle.std.specs.Prelude.{ℕ, zero, suc, ◌+◌, Bool, false, cond, List, [], ◌++◌, eqb, length}
use Rattle.digits.specs.Digits.{numeral}
use Rattle.layout_sets.specs.Outcomes.{outcome_of, sets}
use Rattle.leaf_values.specs.Leaves.{leaves_of, same_leaves}
use Rattle.leaf_values.specs.Values.{any_may, leaf_row, may_be, room_of}
use Rattle.make_lines.specs.Below.{below, some_below}
use Rattle.make_lines.specs.declared.Leaf.{Leaf}
use Rattle.records.specs.declared.Row.{Row}
use Rattle.texts.specs.Pool.{bytes, bytes_at}

-- whether the number before one passes a test
unfoldable pub before : (ℕ → Bool) → ℕ → Bool
before f zero = false
before f (suc x) = f x

-- the values that pass a test, in runs: the first of a run after a space, its last after a dash
unfoldable pub run_part : (ℕ → Bool) → ℕ → List ℕ
run_part f x = cond (f x) (cond (before f x) (cond (f (x + 1)) [] (bytes "-0x" ++ numeral 16 x)) (bytes " 0x" ++ numeral 16 x)) []

-- whether a value may stand at a leaf
abbrev pub may_at : Leaf → ℕ → Bool
may_at l = may_be l.number l.iss l.index

-- the values that a leaf may have; nothing where every value of its width may stand there
unfoldable pub values_part : ℕ → ℕ → ℕ → List ℕ
values_part number iss index =
    cond (any_may number iss index) [] (bytes ":" ++ below (run_part (may_be number iss index)) (room_of (leaf_row number iss index).width))

-- a number, and the word for one of them or for several
unfoldable pub counted : ℕ → List ℕ → List ℕ → List ℕ
counted n one more = numeral 10 n ++ cond (eqb n 1) one more

unfoldable pub width_part : ℕ → List ℕ
width_part width = counted width (bytes " bit") (bytes " bits")

-- the name, and the long name where there is one
unfoldable pub name_part : Row → List ℕ
name_part r = bytes_at r.name ++ cond (eqb r.long 0) [] (bytes ", " ++ bytes_at r.long)

-- PLACE NAME, LONG NAME, WIDTH bits: VALUES
unfoldable pub place_part : ℕ → List ℕ
place_part index = bytes "  " ++ numeral 10 (index + 1) ++ bytes " "

unfoldable pub leaf_line : ℕ → ℕ → ℕ → List ℕ
leaf_line number iss index =
    place_part index
    ++ name_part (leaf_row number iss index)
    ++ bytes ", "
    ++ width_part (leaf_row number iss index).width
    ++ values_part number iss index
    ++ bytes "\n"

unfoldable pub leaves_part : ℕ → List ℕ
leaves_part n = counted n (bytes " leaf") (bytes " leaves")

unfoldable pub set_text : ℕ → ℕ → List ℕ
set_text number iss = leaves_part (length (leaves_of number iss)) ++ bytes ":\n" ++ below (leaf_line number iss) (length (leaves_of number iss))

-- Each set once, at the first outcome that has it.

unfoldable pub is_seen : ℕ → ℕ → Bool
is_seen number k = some_below (λ (j : ℕ). same_leaves number (outcome_of j) (outcome_of k)) k

unfoldable pub set_at : ℕ → ℕ → List ℕ
set_at number k = cond (is_seen number k) [] (set_text number (outcome_of k))

unfoldable pub sets_text : ℕ → List ℕ
sets_text number = below (set_at number) sets
