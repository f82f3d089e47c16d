-- What the engine says of a value: a walk over the numbers of the one table, with conditions as data and no layout by name.
use Rattle.std.specs.Prelude.{ℕ, zero, suc, ◌*◌, ◌/◌, ◌^◌, Bool, cond, not, ◌&&◌, List, [], ◌∷◌, ◌++◌, map, eqb, ltb}
use Rattle.std.specs.Int.Bits.{bit_and}
use Rattle.texts.specs.Rules.{system_register}
use Rattle.refusals.specs.Refusals.{carrying, no_refusal}
use Rattle.refusals.specs.declared.Reason.TheVariants.{InvalidEc}
use Rattle.refusals.specs.declared.Refusal.{Refusal}
use Rattle.records.specs.Bits.{field_of}
use Rattle.records.specs.Rows.{record_of, meets, refusal_of}
use Rattle.records.specs.declared.Record.{Record}
use Rattle.records.specs.declared.Row.{Row}
use Rattle.tables.specs.Tables.{reserved, top_rows}
use Rattle.engine_table.specs.Packed.{answers_of, row_word, place_word, check_word}

-- A number of the table.

-- byte k of a number
abbrev pub byte_of : ℕ → ℕ → ℕ
byte_of w k = field_of w (8 * k) 8

unfoldable pub row_in : ℕ → Row
row_in w =
    record {
      start = byte_of w 5;
      width = byte_of w 6;
      name = byte_of w 0;
      long = byte_of w 4;
      rule = byte_of w 3;
      kind = byte_of w 7;
    }

-- a row is there where those of the tests that its conditions name hold that must, and no others
unfoldable pub applies : ℕ → ℕ → Bool
applies answers w = eqb (bit_and answers (byte_of w 1)) (byte_of w 2)

-- a row that is read with no test: its field lies within 64 bits, and its rule speaks of the field's own value
abbrev pub direct : ℕ → Bool
direct w = ltb (byte_of w 5) 64 && (ltb (byte_of w 6) 64 && not (eqb (byte_of w 3) system_register.number))

-- The walks, under the answers that a value gives to the tests.

-- the rows that apply, of k from index n on
unfoldable pub rows_from : ℕ → ℕ → ℕ → List Row
rows_from answers n zero = []
rows_from answers n (suc k) =
    cond (applies answers (row_word n)) (row_in (row_word n) ∷ rows_from answers (suc n) k) (rows_from answers (suc n) k)

-- whether a row applies and is not met
abbrev pub fails : ℕ → ℕ → ℕ → Bool
fails answers v w = applies answers w && not (meets v (row_in w))

-- what the first row answers that applies and is not met, of k whose indices are the bytes of a number
unfoldable pub failure_from : ℕ → ℕ → ℕ → ℕ → Refusal
failure_from answers v indices zero = no_refusal
failure_from answers v indices (suc k) =
    let w : ℕ = row_word (byte_of indices 0) in
    cond (fails answers v w) (refusal_of v (row_in w)) (failure_from answers v (indices / 2 ^ 8) k)

-- A place: the index of its first row, how many rows and checks it has, and the rule of ISS's own text.
abbrev pub first_in : ℕ → ℕ
first_in place = byte_of place 0

abbrev pub count_in : ℕ → ℕ
count_in place = byte_of place 1

abbrev pub rule_in : ℕ → ℕ
rule_in place = byte_of place 2

abbrev pub checks_in : ℕ → ℕ
checks_in place = byte_of place 3

-- "First 37..64 must be 0, then the class is looked up, then the layout's checks in the order given; the first failure answers."
unfoldable pub failure_of : ℕ → ℕ → Refusal
failure_of class iss =
    cond (eqb (place_word class) 0) (carrying InvalidEc class)
    (failure_from (answers_of iss) iss (check_word class) (checks_in (place_word class)))

unfoldable pub judgement : ℕ → Refusal
judgement esr = cond (meets esr reserved) (failure_of (field_of esr 26 6) (field_of esr 0 25)) (refusal_of esr reserved)

-- the records: the top ones, then ISS's own from high bits to low
unfoldable pub rows_of : ℕ → ℕ → List Row
rows_of class iss = rows_from (answers_of iss) (first_in (place_word class)) (count_in (place_word class))

abbrev pub tops_of : ℕ → ℕ → List Record
tops_of esr rule = map (record_of esr) (top_rows rule)

unfoldable pub records_by : ℕ → ℕ → ℕ → List Record
records_by esr class iss = tops_of esr (rule_in (place_word class)) ++ map (record_of iss) (rows_of class iss)

abbrev pub readings : ℕ → List Record
readings esr = records_by esr (field_of esr 26 6) (field_of esr 0 25)
