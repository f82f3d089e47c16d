-- The steps of the walks, one number of the table at a time; and the answers of the tests from the bits of an ISS.
use mathlib.Core.Path.{◌≡◌, refl, sym, ap, ◌∙◌, subst}
use mathlib.Core.Bool.{Bool, true, false, cond, ◌&&◌}
use mathlib.Core.List.{List, [], ◌∷◌, ◌++◌, map}
use Prim.Native.Nat.{ℕ, zero, suc, ◌+◌, ◌*◌, ◌/◌, ◌^◌, ◌≤◌, ◌<◌}
use native.Mathlib.Omega.{arith}
use native.Mathlib.Nat.{zero-add}
use native.Mathlib.Numerals.{add-one}
use lib.Dec.{T, eqb, eqb→eq}
use lib.ListN.{length, set, length-map}
use borrow.Author.Tests.{eq-eqb, ne_eqb}
use Rattle.promise.specs.Member.{member}
use Rattle.promise.proofs.Tests.{both_left, both_right, from, from_at}
use Rattle.std.specs.Prelude.{Err}
use Rattle.refusals.specs.Refusals.{carrying, checked, no_refusal}
use Rattle.refusals.specs.declared.Reason.TheVariants.{InvalidEc}
use Rattle.records.specs.Bits.{field_of}
use Rattle.records.specs.Kinds.{kind_of}
use Rattle.records.specs.Rows.{record_of, meets, refusal_of}
use Rattle.records.specs.Sets.{set_room, records_of}
use Rattle.records.specs.declared.Record.{Record}
use Rattle.records.specs.declared.Records.{Records}
use Rattle.records.specs.declared.Row.{Row}
use Rattle.records.proofs.Laws.{field_lt, pushed, pushed_all, pushed-all, written}
use Rattle.tables.specs.Shape.{externals}
use Rattle.tables.specs.Applying.{passes}
use Rattle.tables.specs.Tables.{reserved, top_rows}
use Rattle.lookup.specs.Descriptions.{bit}
use Rattle.engine_table.specs.Packed.{answers_of, row_word, place_word, check_word}
use Rattle.engine.specs.Engine.{byte_of, row_in, applies, rows_from, fails, failure_from, checks_in, failure_of, judgement, tops_of}

-- The answers.

one_bit_lem : (x : ℕ) → x < 2 → bit (member x (1 ∷ [])) ≡ x
one_bit_lem zero h = refl
one_bit_lem (suc zero) h = refl
one_bit_lem (suc (suc x)) h = absurd (omega arith)

-- a number whose bits are those of the statuses on a list
abbrev bits_of : ℕ → List ℕ → ℕ → Bool
bits_of numbers on s = eqb (field_of numbers s 1) (bit (member s on))

listed : (numbers : ℕ) (on : List ℕ) → T (from (bits_of numbers on) 0 64) → (s : ℕ) → s < 64 → field_of numbers s 1 ≡ bit (member s on)
listed numbers on t s h =
    eqb→eq (field_of numbers s 1) (bit (member s on)) (subst (λ (n : ℕ). T (bits_of numbers on n)) (zero-add s) (from_at (bits_of numbers on) 0 64 s t h))

abbrev hex_ten : ℕ
hex_ten = 0x10000

abbrev hex_eleven : ℕ
hex_eleven = 0x20000

abbrev external_ones : ℕ
external_ones = 0xFD0000

statuses : T (from (bits_of hex_ten (0x10 ∷ [])) 0 64 && (from (bits_of hex_eleven (0x11 ∷ [])) 0 64 && from (bits_of external_ones externals) 0 64))
unfolding field_of
statuses = tt

pub answered : (v s : ℕ) → s ≡ field_of v 0 6
    → field_of v 24 1 + 2 * field_of v 10 1 + 4 * field_of v 7 1 + 8 * field_of 0x10000 s 1 + 16 * field_of 0x20000 s 1 + 32 * field_of 0xFD0000 s 1 ≡ answers_of v
unfolding answers_of passes
answered v s is =
    let small : field_of v 0 6 < 64 = field_lt v 0 6 in
    let on : T (from (bits_of hex_ten (0x10 ∷ [])) 0 64) = both_left (from (bits_of hex_ten (0x10 ∷ [])) 0 64) _ statuses in
    let rest : _ = both_right (from (bits_of hex_ten (0x10 ∷ [])) 0 64) _ statuses in
    let x : _ = listed hex_ten (0x10 ∷ []) on (field_of v 0 6) small in
    let y : _ = listed hex_eleven (0x11 ∷ []) (both_left (from (bits_of hex_eleven (0x11 ∷ [])) 0 64) _ rest) (field_of v 0 6) small in
    let z : _ = listed external_ones externals (both_right (from (bits_of hex_eleven (0x11 ∷ [])) 0 64) _ rest) (field_of v 0 6) small in
    rw is
    (omega (
      arith,
      x,
      y,
      z,
      one_bit_lem (field_of v 24 1) (field_lt v 24 1),
      one_bit_lem (field_of v 10 1) (field_lt v 10 1),
      one_bit_lem (field_of v 7 1) (field_lt v 7 1),
    ))

-- The steps of the walks.

pub rows-done : (answers n k : ℕ) → k ≡ 0 → rows_from answers n k ≡ []
unfolding rows_from
rows-done answers n k e = rw e refl

pub rows_le : (answers n k : ℕ) → length (rows_from answers n k) ≤ k
unfolding rows_from
rows_le answers n zero = omega arith
rows_le answers n (suc k) = by (applies answers (row_word n)) (rows_le answers (suc n) k)
  where
    by : (b : Bool) → length (rows_from answers (suc n) k) ≤ k
        → length (cond b (row_in (row_word n) ∷ rows_from answers (suc n) k) (rows_from answers (suc n) k)) ≤ suc k
    by true h = omega arith
    by false h = omega arith

module _ (answers n w : ℕ) {k m : ℕ} (more : k ≡ suc m) (is : w ≡ row_word n) where
  rows_step : rows_from answers n k
      ≡ cond (applies answers w) (row_in w ∷ rows_from answers (n + 1) m) (rows_from answers (n + 1) m)
  unfolding rows_from
  rows_step = ap (rows_from answers n) more ∙ rw (add-one n, is) refl

  pub row-there : applies answers w ≡ true → rows_from answers n k ≡ row_in w ∷ rows_from answers (n + 1) m
  row-there h = rows_step ∙ rw h refl

  pub row-over : applies answers w ≡ false → rows_from answers n k ≡ rows_from answers (n + 1) m
  row-over h = rows_step ∙ rw h refl

module _ (answers v indices w : ℕ) {k m : ℕ} (more : k ≡ suc m) (is : w ≡ row_word (byte_of indices 0)) where
  failure_step : failure_from answers v indices k
      ≡ cond (fails answers v w) (refusal_of v (row_in w)) (failure_from answers v (indices / 2 ^ 8) m)
  unfolding failure_from
  failure_step = ap (failure_from answers v indices) more ∙ rw is refl

  pub check-fails : fails answers v w ≡ true → failure_from answers v indices k ≡ refusal_of v (row_in w)
  check-fails h = failure_step ∙ rw h refl

  pub check-passes : fails answers v w ≡ false → failure_from answers v indices k ≡ failure_from answers v (indices / 2 ^ 8) m
  check-passes h = failure_step ∙ rw h refl

pub checks-done : (answers v indices k : ℕ) → k ≡ 0 → failure_from answers v indices k ≡ no_refusal
unfolding failure_from
checks-done answers v indices k e = rw e refl

-- The judgement.

module _ (class iss place : ℕ) (is : place ≡ place_word class) where
  pub unplaced : place ≡ 0 → Err (carrying InvalidEc class) ≡ checked (failure_of class iss)
  unfolding failure_of
  unplaced h = rw (eq-eqb (place_word class) 0 (sym is ∙ h)) refl

  pub placed : (place ≡ 0 → ⊥) → (answers indices count : ℕ) → answers ≡ answers_of iss → indices ≡ check_word class → count ≡ checks_in place
      → failure_from answers iss indices count ≡ failure_of class iss
  unfolding failure_of
  placed h answers indices count a i n =
      let b : count ≡ checks_in (place_word class) = n ∙ ap checks_in is in
      rw (ne_eqb (place_word class) 0 (λ e. h (is ∙ e))) (cc)

pub top-fails : (esr : ℕ) → meets esr reserved ≡ false → Err (refusal_of esr reserved) ≡ checked (judgement esr)
unfolding judgement refusal_of kind_of
top-fails esr h = rw h refl

pub top-passes : (esr : ℕ) → meets esr reserved ≡ true → failure_of (field_of esr 26 6) (field_of esr 0 25) ≡ judgement esr
unfolding judgement
top-passes esr h = rw h refl

-- The records.

pub five : (s : Records) (a b c d e : Record) → s ≡ records_of []
    → record { items = set (set (set (set (set s.items 0 a) 1 b) 2 c) 3 d) 4 e; count = 5 } ≡ records_of (a ∷ b ∷ c ∷ d ∷ e ∷ [])
unfolding records_of
five s a b c d e is = ap (λ (x : Records). record { items = set (set (set (set (set x.items 0 a) 1 b) 2 c) 3 d) 4 e; count = 5 }) is

-- what a walk has written, with what is still to be written, has room and is the whole
pub record Writes (all : Records) (iss : ℕ) (out : Records) (left : List Row) : Type 0 where
  pub room : out.count + length left ≤ set_room
  pub whole : pushed_all out (map (record_of iss) left) ≡ all

pub begun : (esr rule iss : ℕ) (top : Records) (rows : List Row) → top ≡ records_of (tops_of esr rule) → length rows ≤ 14
    → Writes (records_of (tops_of esr rule ++ map (record_of iss) rows)) iss top rows
unfolding top_rows records_of
begun esr rule iss top rows is few =
    let n : top.count ≡ 5 = ap (λ (s : Records). s.count) is in
    record {
      room = omega arith;
      whole =
          ap (λ (s : Records). pushed_all s (map (record_of iss) rows)) is
          ∙ pushed-all (tops_of esr rule) (map (record_of iss) rows) (omega (arith, length-map rows (record_of iss)));
    }

module _ (all : Records) (iss : ℕ) (out : Records) where
  pub writes_one : (r : Row) (left : List Row) (x : Record) → Writes all iss out (r ∷ left) → x ≡ record_of iss r
      → Writes all iss (record { items = set out.items out.count x; count = out.count + 1 }) left
  unfolding pushed_all
  writes_one r left x w e =
      record {
        room = omega (arith, w.room);
        whole =
            ap (λ (s : Records). pushed_all s (map (record_of iss) left)) (written out x (omega (arith, w.room)) ∙ ap (pushed out) e)
            ∙ w.whole;
      }

  pub written_all : Writes all iss out [] → out ≡ all
  unfolding pushed_all
  written_all w = w.whole
