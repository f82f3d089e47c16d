-- `esr make`: what is said of a class, an IL, an ISS2 and leaf values, and of a class whose leaves are asked for, byte for byte (#106).
use Rattle.std.specs.Prelude.{ℕ, cond, List, ◌++◌, eqb, length, Option, Result, Ok, Err, unwrap_or}
use Rattle.digits.specs.Digits.{numeral}
use Rattle.layout_sets.specs.Outcomes.{outcome_of, sets}
use Rattle.layouts.specs.Layouts.{empty, layout_number}
use Rattle.make_lines.specs.Help.{sets_text}
use Rattle.make_reasons.specs.Reasons.{no_layout, too_wide}
use Rattle.refusals.specs.Refusals.{carrying, refusal_number}
use Rattle.refusals.specs.declared.Reason.TheVariants.{InvalidEc}
use Rattle.refusals.specs.declared.Refusal.{Refusal}
use Rattle.reply_lines.specs.Lines.{number_line, refusal_line, refused_by, why}
use Rattle.texts.specs.Pool.{bytes, description_of}
use Rattle.texts.specs.Rules.{class_name}

-- refused N: and why, of 21 and 22 in words of the class's own leaves
unfoldable pub reason_line : Refusal → List ℕ → List ℕ
reason_line f reason = refused_by f ++ bytes ": " ++ reason ++ bytes "\n"

-- The refusal and why; the set that fits the leaves is that of an outcome, where one fits.
unfoldable pub unmade : ℕ → ℕ → ℕ → List ℕ → Refusal → Option ℕ → List ℕ
unmade class il iss2 leaves f k =
    cond (eqb (refusal_number f) 21)
    (reason_line f (no_layout class (layout_number class) (length leaves)))
    (cond (eqb (refusal_number f) 22)
    (reason_line f (too_wide il iss2 (layout_number class) (outcome_of (unwrap_or k sets)) leaves))
    (refusal_line f))

-- The value, 0xH; or the refusal and why.
abbrev pub make_text : ℕ → ℕ → ℕ → List ℕ → Result ℕ Refusal → Option ℕ → List ℕ
make_text class il iss2 leaves (Ok v) k = number_line (bytes "0x") 16 v
make_text class il iss2 leaves (Err f) k = unmade class il iss2 leaves f k

-- the class and its text, what comes before the leaves, and the sets of leaves; a class that no layout serves is refused as decoding refuses it
unfoldable pub help_text : ℕ → List ℕ
help_text class =
    cond (eqb (layout_number class) empty)
    (refusal_line (carrying InvalidEc class))
    (bytes "class 0x" ++ numeral 16 class ++ bytes ": " ++ bytes (description_of class_name.number class) ++ bytes "\nIL, 1 bit; ISS2, 5 bits; then\n" ++ sets_text (layout_number class))

-- refused N: number P, WHY: the number at this place is none
unfoldable pub bad_number : ℕ → Refusal → List ℕ
bad_number place f = refused_by f ++ bytes ": number " ++ numeral 10 place ++ bytes ", " ++ why f ++ bytes "\n"

-- class, IL and ISS2 come before the leaves
unfoldable pub too_few : ℕ → List ℕ
too_few count = number_line (bytes "refused: CLASS IL ISS2 LEAF.. are asked for; numbers given: ") 10 count
