-- The top rows are those that are packed as constants; slots are filled one after the other, and what is left says what the whole will be.
use mathlib.Core.Path.{◌≡◌, refl, sym, ap, ap₂, ◌∙◌}
use mathlib.Core.Bool.{Bool, true, false, cond}
use mathlib.Core.List.{List, [], ◌∷◌, ◌++◌, map, map-append}
use Prim.Native.Nat.{ℕ, suc, ◌+◌, ◌≤◌, ◌<◌}
use native.Mathlib.Nat.{add-zero, zero-add}
use native.Mathlib.Numerals.{add-one}
use native.Mathlib.Omega.{arith}
use lib.Dec.{leb}
use lib.ListN.{length, drop, set, length-map, length-set}
use lib.Seq.{sets, sets-eq}
use borrow.Author.Tests.{le-leb, lt-leb}
use Rattle.texts.specs.Names.{names}
use Rattle.texts.specs.Pool.{code, index_in}
use Rattle.texts.specs.Rules.{plain, il}
use Rattle.records.specs.Bits.{field_of}
use Rattle.records.specs.Kinds.{Free}
use Rattle.records.specs.Rows.{record_of}
use Rattle.records.specs.declared.Row.{Row}
use Rattle.tables.specs.Shape.{unnamed}
use Rattle.tables.specs.Tables.{top, reserved, class, iss_under, top_rows}
use Rattle.engine.specs.Engine.{row_in, tops_of}
use Rattle.engine.specs.Words.{words_of, slot_of, putting}

-- the constants

pub RES0 : row_in 0x021B250200000001 ≡ reserved
unfolding row_in field_of code index_in names
RES0 = refl

pub ISS2 : row_in 0x0005200000000003 ≡ top 32 37 "ISS2" unnamed Free plain
unfolding row_in field_of code index_in names
ISS2 = refl

pub EC : row_in 0x01061A0521000004 ≡ class
unfolding row_in field_of code index_in names
EC = refl

pub IL : row_in 0x0001190701000006 ≡ top 25 26 "IL" "Instruction Length" Free il
unfolding row_in field_of code index_in names
IL = refl

pub ISS : row_in 0x0019000900000008 ≡ iss_under 0
unfolding row_in field_of code index_in names
ISS = refl

-- a walk that fills slots: how many slots are filled, what the slots hold, and the rows that are left

pub record Fills (all : ℕ) (final : List (List ℕ)) (v : ℕ) (slots : List (List ℕ)) (next : ℕ) (left : List Row) : Type 0 where
  pub counted : next + length left ≡ all
  pub room : all ≤ length slots
  pub whole : sets slots next (map (slot_of v) left) ≡ final

module _ (all : ℕ) (final : List (List ℕ)) (v : ℕ) (slots : List (List ℕ)) (next : ℕ) where
  pub fills_one : (r : Row) (left : List Row) (x : List ℕ) → Fills all final v slots next (r ∷ left) → x ≡ slot_of v r
      → Fills all final v (set slots next x) (next + 1) left
  fills_one r left x f e =
      record {
        counted = omega (arith, f.counted);
        room = omega (arith, f.room, length-set slots next x);
        whole =
            ap₂ (λ (y : List ℕ) (n : ℕ). sets (set slots next y) n (map (slot_of v) left)) e (add-one next) ∙ f.whole;
      }

  pub filled : Fills all final v slots next [] → (next ≡ all) × (slots ≡ final)
  filled f = (omega (arith, f.counted), f.whole)

-- the whole, as it is promised

sets-after : (l xs ys : List (List ℕ)) (i : ℕ) → sets l i (xs ++ ys) ≡ sets (sets l i xs) (i + length xs) ys
sets-after l [] ys i = ap (λ (n : ℕ). sets l n ys) (sym (add-zero i))
sets-after l (x ∷ xs) ys i =
    let e : suc i + length xs ≡ i + suc (length xs) = omega arith in
    sets-after (set l i x) xs ys (suc i) ∙ ap (λ (n : ℕ). sets (sets (set l i x) (suc i) xs) n ys) e

fused : (v : ℕ) (rows : List Row) → map words_of (map (record_of v) rows) ≡ map (slot_of v) rows
fused v [] = refl
fused v (r ∷ rs) = ap (λ (xs : List (List ℕ)). slot_of v r ∷ xs) (fused v rs)

module _ (esr iss rule : ℕ) (rows : List Row) where
  abbrev slots_of : List (List ℕ)
  slots_of = map (slot_of esr) (top_rows rule) ++ map (slot_of iss) rows

  all_slots : map words_of (tops_of esr rule ++ map (record_of iss) rows) ≡ slots_of
  all_slots =
      map-append words_of (tops_of esr rule) (map (record_of iss) rows) ∙ ap₂ ◌++◌ (fused esr (top_rows rule)) (fused iss rows)

  five_and : length (map words_of (tops_of esr rule ++ map (record_of iss) rows)) ≡ 5 + length rows
  unfolding top_rows
  five_and = omega (arith, ap length all_slots, length-map rows (slot_of iss))

  module _ (before : List (List ℕ)) where
    pub put_short : {count : ℕ} → count ≡ 5 + length rows → length before < 5 + length rows
        → (count, before) ≡ putting (map words_of (tops_of esr rule ++ map (record_of iss) rows)) before
    unfolding putting
    put_short {count} e h =
        let n : ℕ = length (map words_of (tops_of esr rule ++ map (record_of iss) rows)) in
        let short : leb n (length before) ≡ false = lt-leb n (length before) (omega (arith, five_and)) in
        ap (λ (k : ℕ). (k, before)) (e ∙ sym five_and)
        ∙ ap (λ (b : Bool). (n, cond b (map words_of (tops_of esr rule ++ map (record_of iss) rows) ++ drop n before) before)) (sym short)

    pub put_whole : {count : ℕ} {after : List (List ℕ)} → count ≡ 5 + length rows → 5 + length rows ≤ length before
        → after ≡ sets (sets before 0 (map (slot_of esr) (top_rows rule))) 5 (map (slot_of iss) rows)
        → (count, after) ≡ putting (map words_of (tops_of esr rule ++ map (record_of iss) rows)) before
    unfolding putting top_rows
    put_whole {count} {after} e h a =
        let content : List (List ℕ) = map words_of (tops_of esr rule ++ map (record_of iss) rows) in
        let n : ℕ = length content in
        let whole : leb n (length before) ≡ true = le-leb n (length before) (omega (arith, five_and)) in
        let held : after ≡ content ++ drop n before =
        a
        ∙ sym (sets-after before (map (slot_of esr) (top_rows rule)) (map (slot_of iss) rows) 0)
        ∙ ap (sets before 0) (sym all_slots)
        ∙ sets-eq content before 0 (omega (arith, five_and))
        ∙ ap (λ (k : ℕ). content ++ drop k before) (zero-add n) in
        ap₂ (λ (k : ℕ) (l : List (List ℕ)). (k, l)) (e ∙ sym five_and) held
        ∙ ap (λ (b : Bool). (n, cond b (content ++ drop n before) before)) (sym whole)
