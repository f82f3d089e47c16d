-- The fields by index, and a search among them a step at a time.
use Prim.Native.Nat.{ℕ, zero, suc, ◌+◌, ◌-◌, ◌≤◌, ◌<◌}
use mathlib.Core.Bool.{Bool, true, false}
use mathlib.Core.List.{List, []}
use mathlib.Core.Path.{◌≡◌, refl, sym, ap, ◌∙◌}
use native.Mathlib.Numerals.{add-one}
use native.Mathlib.Omega.{arith}
use lib.Dec.{leb}
use lib.ListN.{length, get_or, drop, drop_of_length-le}
use lib.Seq.{drop-cons}
use borrow.Author.Tests.{leb-true, leb-false}
use Rattle.buffer.proofs.Lent.{lent_length, lent-text, part_out}
use Rattle.buffer.specs.Lent.{Lent}
use Rattle.esr.specs.Decode.{class_of, iss_of}
use Rattle.layouts.specs.Layouts.{layout_number, pad}
use Rattle.leaf_values.proofs.Laws.{few-leaves}
use Rattle.leaf_values.specs.Leaves.{leaves_of}
use Rattle.leaf_values.specs.Values.{leaf_row}
use Rattle.number.specs.Rest.{whole_of}
use Rattle.number.specs.declared.Number.{Number}
use Rattle.refusals.specs.Refusals.{passed}
use Rattle.records.specs.declared.Row.{Row}
use Rattle.tables.specs.Tables.{top_rows}
use Rattle.texts.specs.Pool.{length_in}
use Rattle.turn_fields.specs.Fields.{bit_place, count_of, fields_of, means_by, nowhere, one_more, seek_from, seek_in}
use Rattle.turn_fields.specs.declared.Found.{Found}
use Rattle.turn_fields.specs.declared.Found.TheVariants.{Nowhere, Once, Several}

-- of the project's own pool a text that is not empty lies in it
pub lent-within : {lent starting : List ℕ} (code n : ℕ) → Lent lent starting → n ≡ length_in starting code → 0 < n
    → get_or starting code 0 + n ≤ length lent
lent-within {lent} {starting} code n own is some = by (leb (get_or starting code 0 + n) (length lent)) refl
  where
    by : (b : Bool) → leb (get_or starting code 0 + n) (length lent) ≡ b → get_or starting code 0 + n ≤ length lent
    by true e = leb-true (get_or starting code 0 + n) (length lent) e
    by false e =
        let out = part_out lent starting code n is (leb-false (get_or starting code 0 + n) (length lent) e) in
        let none = ap length (sym out ∙ lent-text code own) in
        absurd (omega (arith, some, none, lent_length starting code n own.each is))

module _ (v : ℕ) where
  pub counted : length (leaves_of (layout_number (class_of v)) (iss_of v)) + 3 ≡ length (fields_of v)
  unfolding fields_of top_rows
  counted = omega arith

  pub own_row : (i : ℕ) → (i ≡ 0 → ⊥) → (i ≡ 1 → ⊥) → (i ≡ 2 → ⊥) → leaf_row (layout_number (class_of v)) (iss_of v) (i - 3) ≡ get_or (fields_of v) i pad
  unfolding fields_of top_rows leaf_row
  own_row zero a b d = absurd (a refl)
  own_row (suc zero) a b d = absurd (b refl)
  own_row (suc (suc zero)) a b d = absurd (d refl)
  own_row (suc (suc (suc i))) a b d = ap (λ (j : ℕ). get_or (leaves_of (layout_number (class_of v)) (iss_of v)) j pad) (omega arith)

module _ (p : Row → Bool) (rows : List Row) (i : ℕ) (found : Found) where
  pub seek_done : length rows ≤ i → seek_from p i found (drop i rows) ≡ found
  unfolding seek_from
  seek_done h = rw (drop_of_length-le rows h)

  pub seek_step : i < length rows → seek_from p i found (drop i rows) ≡ seek_from p (i + 1) (one_more (p (get_or rows i pad)) i found) (drop (i + 1) rows)
  unfolding seek_from
  seek_step h =
      ap (seek_from p i found) (drop-cons rows i pad h)
      ∙ ap (λ (j : ℕ). seek_from p j (one_more (p (get_or rows i pad)) i found) (drop j rows)) (sym (add-one i))

-- one more counted is still within the rows so far
pub one-within : (hit : Bool) (i : ℕ) (found : Found) → count_of found ≤ i → count_of (one_more hit i found) ≤ i + 1
one-within false i found h = omega (arith, h)
one-within true i Nowhere h = omega arith
one-within true i (Once j) h = omega (arith, h)
one-within true i (Several p) h = omega (arith, h)

pub few_fields : (v : ℕ) → length (fields_of v) ≤ 17
few_fields v = omega (arith, counted v, few-leaves (layout_number (class_of v)) (iss_of v))

pub seek_all : (p : Row → Bool) (rows : List Row) → seek_in p rows ≡ seek_from p 0 nowhere (drop 0 rows)
unfolding seek_in
seek_all p rows = refl

-- What a word means as a number.

module _ (v : ℕ) (word : List ℕ) (n : Number) (e : n ≡ whole_of word) where
  pub no_number : passed n.refusal ≡ false → nowhere ≡ bit_place v word (whole_of word)
  unfolding bit_place
  no_number h = rw (← e, h)

  pub at-bit : passed n.refusal ≡ true → {r : Found} → r ≡ seek_in (means_by false [] n.value) (fields_of v)
      → r ≡ bit_place v word (whole_of word)
  unfolding bit_place means_by
  at-bit h f = f ∙ rw (← e, h)
