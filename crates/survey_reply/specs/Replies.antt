-- What a survey says, byte for byte (02's #101). Its totals are a list of 74 places: the 64 classes, the numbers that a value can be refused
-- by, and the lines that held no number.
use Rattle.std.specs.Prelude.{ℕ, zero, suc, ◌-◌, Bool, cond, not, ◌&&◌, ◌||◌, List, [], ◌++◌, eqb, leb, ltb, get_or}
use Rattle.digits.specs.Digits.{digits_of, numeral}
use Rattle.refusals.specs.Values.{value_number}
use Rattle.texts.specs.Pool.{bytes}

-- the first place of the refusals, that of the lines that held no number, and how many places there are
abbrev pub classes : ℕ
classes = 64

abbrev pub no_number : ℕ
no_number = 73

abbrev pub places : ℕ
places = 74

-- what stands before a count: the class with two digits, the number of the refusal, or "no number:"
unfoldable pub label : ℕ → List ℕ
label place =
    cond (ltb place classes) (bytes "0x" ++ digits_of 16 2 place)
    (cond (ltb place no_number) (bytes "refused " ++ numeral 10 (value_number (place - classes)))
    (bytes "no number:"))

unfoldable pub front : ℕ → List ℕ
front place = label place ++ bytes " "

-- "0x15 3"
unfoldable pub count_text : ℕ → ℕ → List ℕ
count_text place count = front place ++ numeral 10 count

-- "one to a line"
unfoldable pub count_line : ℕ → ℕ → List ℕ
count_line place count = count_text place count ++ bytes "\n"

-- "the non-zero class counts", and how many lines held none, whatever that is; where all is asked for, the non-zero counts of refused values too
unfoldable pub is_said : Bool → ℕ → ℕ → Bool
is_said all place count = leb no_number place || (not (eqb count 0) && (ltb place classes || all))

unfoldable pub said_line : Bool → ℕ → ℕ → List ℕ
said_line all place count = cond (is_said all place count) (count_line place count) []

-- what is said of n places from k on; a place that the totals lack counts nothing
unfoldable pub said_from : Bool → List ℕ → ℕ → ℕ → List ℕ
said_from all totals k zero = []
said_from all totals k (suc n) = said_line all k (get_or totals k 0) ++ said_from all totals (suc k) n

-- "in class order", "then" how many lines held none
abbrev pub survey_text : Bool → List ℕ → List ℕ
survey_text all totals = said_from all totals 0 places
