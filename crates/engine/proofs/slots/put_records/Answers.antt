-- The rows of the value's class: at most fourteen, counted where the slots are few, written after the top ones where
-- they have room.
use mathlib.Core.Path.{◌≡◌, sym, ap, ◌∙◌}
use mathlib.Core.List.{List, map}
use Prim.Native.Nat.{ℕ, ◌+◌, ◌≤◌, ◌<◌}
use native.Mathlib.Omega.{arith}
use lib.ListN.{length}
use lib.Seq.{sets, length-sets}
use borrow.Author.Tests.{leb-true, leb-false}
use Rattle.records.specs.Bits.{field_of}
use Rattle.records.specs.declared.Row.{Row}
use Rattle.tables.specs.Tables.{top_rows}
use Rattle.engine_table.specs.Packed.{answers_of, place_word}
use Rattle.engine.specs.Engine.{first_in, count_in, rule_in, rows_from, rows_of, records_by}
use Rattle.engine.specs.Words.{slot_of}
use Rattle.engine.proofs.Filling.{put_short, put_whole}
use Rattle.engine.proofs.Rows.{few-rows}
use Rattle.engine.proofs.slots.put_records.Goals as goal

walked : {a b n m k j : ℕ} → a ≡ b → n ≡ m → k ≡ j → rows_from a n k ≡ rows_from b m j
walked e f g = cc

-- the rows that are walked are those of the value's class
module _ (esr : ℕ) {class iss place answers first count : ℕ} (e : class ≡ field_of esr 26 6)
    (v : iss ≡ field_of esr 0 25) where
  module _ (p : place ≡ place_word class) (a : answers ≡ answers_of iss) (f : first ≡ first_in place)
      (n : count ≡ count_in place) where
    placed : place ≡ place_word (field_of esr 26 6)
    placed = p ∙ ap place_word e

    own-rows : rows_from answers first count ≡ rows_of (field_of esr 26 6) (field_of esr 0 25)
    unfolding rows_of
    own-rows = walked (a ∙ ap answers_of v) (f ∙ ap first_in placed) (n ∙ ap count_in placed)

    few : length (rows_from answers first count) ≤ 14
    few = omega (arith, ap length own-rows, few-rows (field_of esr 26 6) (field_of esr 0 25))

-- what is written, by the rule, the ISS and the rows
abbrev filled : ℕ → List (List ℕ) → ℕ → ℕ → List Row → List (List ℕ)
filled esr before rule iss rows = sets (sets before 0 (map (slot_of esr) (top_rows rule))) 5 (map (slot_of iss) rows)

same-filled : (esr : ℕ) (before : List (List ℕ)) {r s i j : ℕ} {xs ys : List Row} → r ≡ s → i ≡ j → xs ≡ ys
    → filled esr before r i xs ≡ filled esr before s j ys
same-filled esr before {r} {s} {i} {j} {xs} {ys} e f g =
    ap (λ (n : ℕ). filled esr before n i xs) e
    ∙ ap (λ (n : ℕ). filled esr before s n xs) f
    ∙ ap (filled esr before s j) g

pub fits-requires : goal.fits-requires
fits-requires c = (
  omega arith,
  few c.args.esr c.field.ensures c.field-iss.ensures c.place_word-place.ensures c.answers_of-answers.ensures
      c.byte-first.ensures c.byte-count.ensures,
)

pub overflow_add-result : goal.overflow_add-result
overflow_add-result c =
    let n : length (rows_from c.answers_of-answers.result c.byte-first.result c.byte-count.result) ≤ 14 =
    few c.args.esr c.field.ensures c.field-iss.ensures c.place_word-place.ensures c.answers_of-answers.ensures
    c.byte-first.ensures c.byte-count.ensures in
    omega arith

pub returns-then-not-fits : goal.returns-then-not-fits
unfolding records_by
returns-then-not-fits c =
    let a = c.args in
    let class : ℕ = field_of a.esr 26 6 in
    let iss : ℕ = field_of a.esr 0 25 in
    let own : rows_from c.answers_of-answers.result c.byte-first.result c.byte-count.result ≡ rows_of class iss =
    own-rows a.esr c.field.ensures c.field-iss.ensures c.place_word-place.ensures c.answers_of-answers.ensures
    c.byte-first.ensures c.byte-count.ensures in
    let short : length a.slots.now < 5 + length
    (rows_from c.answers_of-answers.result c.byte-first.result c.byte-count.result) =
    leb-false _ _ (sym c.fits.ensures ∙ c.if-not-fits.true) in
    put_short a.esr iss (rule_in (place_word class)) (rows_of class iss) a.slots.now
    (ap (λ (n : ℕ). 5 + n) (c.count_rows.ensures ∙ ap length own)) (omega (arith, ap length own))

pub top_slots-requires : goal.top_slots-requires
top_slots-requires c =
    let room : 5 + length
    (rows_from c.answers_of-answers.result c.byte-first.result c.byte-count.result) ≤ length c.args.slots.now =
    leb-true _ _ (sym c.fits.ensures ∙ c.if-not-fits.false) in
    omega arith

pub row_slots-requires : goal.row_slots-requires
row_slots-requires c =
    let a = c.args in
    let room : 5 + length
    (rows_from c.answers_of-answers.result c.byte-first.result c.byte-count.result) ≤ length a.slots.now =
    leb-true _ _ (sym c.fits.ensures ∙ c.if-not-fits.false) in
    let kept : _ =
    ap length c.top_slots.ensures ∙ length-sets a.slots.now 0 (map (slot_of a.esr) (top_rows c.byte.result)) in
    (omega arith, omega arith)

pub shape_of-slots : goal.shape_of-slots
shape_of-slots c =
    let a = c.args in
    ap length c.row_slots.ensures.1
    ∙ length-sets _ 5
    (map (slot_of c.field-iss.result) (rows_from c.answers_of-answers.result c.byte-first.result c.byte-count.result))
    ∙ ap length c.top_slots.ensures
    ∙ length-sets a.slots.now 0 (map (slot_of a.esr) (top_rows c.byte.result))

pub returns : goal.returns
unfolding records_by
returns c =
    let a = c.args in
    let class : ℕ = field_of a.esr 26 6 in
    let iss : ℕ = field_of a.esr 0 25 in
    let rows : List Row = rows_from c.answers_of-answers.result c.byte-first.result c.byte-count.result in
    let own : rows_from c.answers_of-answers.result c.byte-first.result c.byte-count.result ≡ rows_of class iss =
    own-rows a.esr c.field.ensures c.field-iss.ensures c.place_word-place.ensures c.answers_of-answers.ensures
    c.byte-first.ensures c.byte-count.ensures in
    let room : 5 + length
    (rows_from c.answers_of-answers.result c.byte-first.result c.byte-count.result) ≤ length a.slots.now =
    leb-true _ _ (sym c.fits.ensures ∙ c.if-not-fits.false) in
    put_whole a.esr iss (rule_in (place_word class)) (rows_of class iss) a.slots.now
    (c.row_slots.ensures.0 ∙ ap (λ (n : ℕ). 5 + n) (ap length own)) (omega (arith, ap length own))
    (c.row_slots.ensures.1
    ∙ ap (λ (l : List (List ℕ)). sets l 5 (map (slot_of c.field-iss.result) rows)) c.top_slots.ensures
    ∙ same-filled a.esr a.slots.now
    (c.byte.ensures ∙ ap rule_in (c.place_word-place.ensures ∙ ap place_word c.field.ensures)) c.field-iss.ensures own)
