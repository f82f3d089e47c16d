-- `esr diff`: what is said of two values, byte for byte (#114).
use Rattle.std.specs.Prelude.{ℕ, suc, Bool, cond, ◌&&◌, ◌||◌, List, [], ◌∷◌, ◌++◌, eqb, ltb}
use Rattle.diff_lines.specs.Lines.{changed_lines, marked_lines}
use Rattle.esr.specs.Decode.{answer_of, class_of}
use Rattle.named_fields.specs.Fields.{have_same_rows, is_named}
use Rattle.records.specs.Kinds.{mark_number}
use Rattle.records.specs.Sets.{list_of}
use Rattle.records.specs.declared.Record.{Record}
use Rattle.refusals.specs.Refusals.{passed}
use Rattle.reply_lines.specs.Lines.{number_line, refusal_line}
use Rattle.texts.specs.Pool.{bytes}

-- DECISIONS 109: a field that both have: same start, width, name and long name
unfoldable pub same_field : Record → Record → Bool
same_field x y = ((eqb x.start y.start && eqb x.width y.width) && eqb x.name y.name) && eqb x.long y.long

-- and whose record is equal: what else a record has
unfoldable pub same_record : Record → Record → Bool
same_record x y = (eqb x.value y.value && eqb x.text y.text) && eqb (mark_number x.mark) (mark_number y.mark)

-- whether a condition of the class names the field, or it is the class, of either value's class
unfoldable pub both_named : ℕ → ℕ → Record → Bool
both_named v w x = is_named (class_of v) x.start x.width || is_named (class_of w) x.start x.width

-- the index is the record's place in the listing of the first value
unfoldable pub both_part : ℕ → ℕ → ℕ → Record → Record → List ℕ
both_part v w index x y =
    cond (same_record x y) (marked_lines (bytes "  ") index x)
    (cond (both_named v w x) (changed_lines (bytes "! ") index x y) (changed_lines (bytes "* ") index x y))

unfoldable pub first_part : ℕ → Record → List ℕ
first_part index x = marked_lines (bytes "< ") index x

unfoldable pub second_part : ℕ → Record → List ℕ
second_part index y = marked_lines (bytes "> ") index y

-- After the five top rows, which both have, both lists run from bit 24 down. At each step, if the next fields are the same they are one part; else the one with
-- the higher start goes first, and the first value's where they start alike.
unfoldable pub side_from : ℕ → ℕ → ℕ → ℕ → List Record → List Record → List ℕ
side_from v w i j [] [] = []
side_from v w i j (x ∷ xs) [] = first_part i x ++ side_from v w (suc i) j xs []
side_from v w i j [] (y ∷ ys) = second_part j y ++ side_from v w i (suc j) [] ys
side_from v w i j (x ∷ xs) (y ∷ ys) =
    cond (same_field x y) (both_part v w i x y ++ side_from v w (suc i) (suc j) xs ys)
    (cond (ltb x.start y.start) (second_part j y ++ side_from v w i (suc j) (x ∷ xs) ys)
    (first_part i x ++ side_from v w (suc i) j xs (y ∷ ys)))

unfoldable pub side_by_side : ℕ → ℕ → List Record → List Record → List ℕ
side_by_side v w xs ys = side_from v w 0 0 xs ys

-- if the rows of both are not the same, by the tables: also where only the text rule of a row differs
unfoldable pub other_rows : ℕ → ℕ → List ℕ
other_rows v w = cond (have_same_rows v w) [] (bytes "other rows: the fields marked ! decide which there are\n")

-- a value that is refused, as the listing's reply says it
unfoldable pub refused_part : ℕ → List ℕ
refused_part v = cond (passed (answer_of v).refusal) [] (number_line (bytes "> 0x") 16 v ++ refusal_line (answer_of v).refusal)

unfoldable pub diff_text : ℕ → ℕ → List ℕ
diff_text v w =
    cond (passed (answer_of v).refusal && passed (answer_of w).refusal)
    (side_by_side v w (list_of (answer_of v).records) (list_of (answer_of w).records) ++ other_rows v w)
    (refused_part v ++ refused_part w)

-- another count of numbers than two
unfoldable pub not_two : ℕ → List ℕ
not_two count = number_line (bytes "refused: VALUE VALUE are asked for; numbers given: ") 10 count
