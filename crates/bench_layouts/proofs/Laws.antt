-- An array that is filled from its front one element at a time, the records of a set, of which each has its slot, and what is answered with them.
use Prim.Native.Nat.{ℕ, suc, ◌+◌, ◌≤◌, ◌<◌}
use mathlib.Core.Bool.{true, false}
use mathlib.Core.List.{List, [], ◌∷◌, ◌++◌, append_assoc}
use mathlib.Core.Path.{◌≡◌, refl, sym, ap, subst, ◌∙◌}
use native.Mathlib.Numerals.{add-one}
use native.Mathlib.Omega.{arith}
use lib.ListN.{length, get_or, take, drop, set, length-map, get_or-map}
use lib.Seq.{take-suc, drop-cons, set_at, length-take-le, take-length, get_or-take}
use Rattle.refusals.specs.Refusals.{passed}
use Rattle.records.specs.Sets.{set_room, no_record}
use Rattle.records.specs.declared.Records.{Records}
use Rattle.engine.specs.Words.{words_of}
use Rattle.esr.specs.Decode.{answer_of}
use Rattle.esr.specs.declared.Answer.{Answer}
use Rattle.esr.proofs.Laws.{Roomy, answer-room}
use Rattle.strict.specs.declared.Profile.TheVariants.{Ordinary}
use Rattle.capi.specs.Answers.{filled_of}
use Rattle.capi.specs.Buffers.{filling, front}
use Rattle.capi.specs.Words.{all_words, decoding}
use Rattle.capi.specs.declared.Filled.{Filled}

-- Filling an array.

-- the first i elements are the content's, and the rest stands as it did
abbrev pub so_far : {A : Type 0} → List A → List A → ℕ → List A
so_far content before i = take i content ++ drop i before

module _ {A : Type 0} (content before : List A) (fits : length content ≤ length before) where
  pub so_far_more : (d : A) (i : ℕ) (x : A) → i < length content → x ≡ get_or content i d
      → set (so_far content before i) i x ≡ so_far content before (i + 1)
  so_far_more d i x less is =
      ap (λ (l : List A). set (take i content ++ l) i x) (drop-cons before i d (omega arith))
      ∙ set_at (take i content) (get_or before i d) (drop (suc i) before) x i (length-take-le i content (omega arith))
      ∙ ap (λ (y : A). take i content ++ (y ∷ drop (suc i) before)) is
      ∙ sym (append_assoc (take i content) (get_or content i d ∷ []) (drop (suc i) before))
      ∙ ap (λ (l : List A). l ++ drop (suc i) before) (sym (take-suc content i d less))
      ∙ ap (λ (n : ℕ). so_far content before n) (sym (add-one i))

  pub so_far-done : (i : ℕ) → i ≡ length content → so_far content before i ≡ front content before
  so_far-done i e =
      ap (λ (n : ℕ). so_far content before n) e ∙ ap (λ (l : List A). l ++ drop (length content) before) (take-length content)

-- a record's slot among those of all records of a set
pub slot_at : (s : Records) (i : ℕ) → i < s.count
    → words_of (get_or s.items i no_record) ≡ get_or (all_words s) i (words_of no_record)
slot_at s i h =
    sym (get_or-map words_of (take s.count s.items) i no_record ∙ ap words_of (get_or-take s.count s.items i no_record h))

-- all are there where a set has room for what it counts
pub slots_count : (s : Records) → length s.items ≡ set_room → s.count ≤ set_room → length (all_words s) ≡ s.count
slots_count s slots room =
    length-map (take s.count s.items) words_of ∙ length-take-le s.count s.items (omega arith)

-- every answer has room for what it counts; the refusal of the value, or its records
module _ (esr : ℕ) {a : Answer} (is : a ≡ answer_of esr) where
  pub room : length a.records.items ≡ set_room → a.records.count ≤ set_room
  room = subst Roomy (sym is) (answer-room esr)

  module _ (before : List (List ℕ)) where
    pub decode_refused : {r : Filled} → passed a.refusal ≡ false → r ≡ filled_of a.refusal 0
        → (r, before) ≡ decoding Ordinary esr before
    unfolding decoding
    decode_refused h e = ap (λ (x : Filled). (x, before)) e ∙ rw (← is) (rw h refl)

    pub decode_read : passed a.refusal ≡ true → filling (all_words a.records) before ≡ decoding Ordinary esr before
    unfolding decoding
    decode_read h = rw (← is) (rw h refl)
