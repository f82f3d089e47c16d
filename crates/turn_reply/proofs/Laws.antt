-- The numbers of the fields, one set, as they lie in an array; and what the maker is asked for of them.
use Prim.Native.Nat.{ℕ, zero, suc, ◌+◌, ◌-◌, ◌≤◌, ◌<◌}
use mathlib.Core.Bool.{true, false}
use mathlib.Core.List.{List, [], ◌∷◌, map}
use mathlib.Core.Path.{◌≡◌, refl, sym, ap, ap₂, subst, ◌∙◌}
use native.Mathlib.Nat.{le_of_suc-le-suc, not-suc-le-zero}
use native.Mathlib.Omega.{arith}
use lib.ListN.{length, get_or, take, drop, set, length-map, length-set, get_or-map}
use lib.Seq.{sets, sets-eq, get_or-set_same, get_or-set_other, take-append_seam, length-sets}
use Rattle.esr.specs.Decode.{answer_of}
use Rattle.make_reply.specs.Promises as make
use Rattle.layouts.specs.Layouts.{pad}
use Rattle.records.specs.Rows.{value_in}
use Rattle.refusals.specs.Refusals.{passed}
use Rattle.reply_lines.specs.Lines.{refusal_line}
use Rattle.turn_fields.proofs.Laws.{counted, few_fields}
use Rattle.turn_fields.specs.Fields.{fields_of, place_of}
use Rattle.turn_fields.specs.declared.Found.{Found}
use Rattle.turn_reply.specs.Turns.{Said, Turn, told, made, made_of, turn_at, turn_of, turned}

-- within a list the default is not asked
either_default : (l : List ℕ) (i a b : ℕ) → i < length l → get_or l i a ≡ get_or l i b
either_default [] i a b h = absurd (not-suc-le-zero h)
either_default (x ∷ xs) zero a b h = refl
either_default (x ∷ xs) (suc i) a b h = either_default xs i a b (le_of_suc-le-suc h)

module _ (v index number : ℕ) where
  pub turned-long : length (turned v index number) ≡ length (fields_of v)
  unfolding turned
  turned-long = length-set (map (value_in v) (fields_of v)) index number ∙ length-map (fields_of v) (value_in v)

  pub turned-few : length (turned v index number) ≤ 17
  turned-few = omega (arith, turned-long, few_fields v)

  pub turned_three : 3 ≤ length (turned v index number)
  turned_three = omega (arith, turned-long, counted v)

  module _ (i : ℕ) (h : i < length (turned v index number)) where
    pub set_here : i ≡ index → number ≡ get_or (turned v index number) i 0
    unfolding turned
    set_here e =
        sym (ap (λ (k : ℕ). get_or (set (map (value_in v) (fields_of v)) k number) i 0) (sym e)
        ∙ get_or-set_same (map (value_in v) (fields_of v)) i number 0 (omega (arith, h, turned-long, length-map (fields_of v) (value_in v))))

    pub set-elsewhere : (i ≡ index → ⊥) → value_in v (get_or (fields_of v) i pad) ≡ get_or (turned v index number) i 0
    unfolding turned
    set-elsewhere n =
        sym (get_or-map (value_in v) (fields_of v) i pad)
        ∙ either_default (map (value_in v) (fields_of v)) i (value_in v pad) 0 (omega (arith, h, turned-long, length-map (fields_of v) (value_in v)))
        ∙ sym (get_or-set_other (map (value_in v) (fields_of v)) index i number 0 n)

-- a list at the front of an array
pub front-is : (t l : List ℕ) → length t ≤ length l → take (length t) (sets l 0 t) ≡ t
front-is t l h = ap (take (length t)) (sets-eq t l 0 (omega arith)) ∙ take-append_seam t (drop (0 + length t) l)

pub asked : (l : List ℕ) (n : ℕ) → 3 ≤ n → n ≤ length l → made (get_or l 1 0) (get_or l 2 0) (get_or l 0 0) (take (n - 3) (drop 3 l)) ≡ made_of (take n l)
asked l zero h k = absurd (omega arith)
asked l (suc zero) h k = absurd (omega arith)
asked l (suc (suc zero)) h k = absurd (omega arith)
asked [] (suc (suc (suc n))) h k = absurd (omega arith)
asked (a ∷ []) (suc (suc (suc n))) h k = absurd (omega arith)
asked (a ∷ b ∷ []) (suc (suc (suc n))) h k = absurd (omega arith)
asked (a ∷ b ∷ c ∷ l) (suc (suc (suc n))) h k = let e : suc (suc (suc n)) - 3 ≡ n = omega arith in ap (λ (j : ℕ). made b c a (take j l)) e

pub by_turn : (from out : ℕ × List ℕ) {t u : Turn} → t ≡ u → Said t from out → Said u from out
by_turn from out e s = subst (λ (t : Turn). Said t from out) e s

module _ {from out : ℕ × List ℕ} where
  pub said-made : (p t l : List ℕ) (n : ℕ) → l ≡ sets p 0 t → n ≡ length t → length t ≤ length p → 3 ≤ length t
      → make.Said (get_or l 1 0) (get_or l 2 0) (get_or l 0 0) (take (n - 3) (drop 3 l)) from out → Said (made_of t) from out
  said-made p t l n e f few three s =
      by_turn from out
      (ap₂ (λ (x : List ℕ) (m : ℕ). made (get_or x 1 0) (get_or x 2 0) (get_or x 0 0) (take (m - 3) (drop 3 x))) e f
      ∙ asked (sets p 0 t) (length t) three (omega (arith, few, length-sets p 0 t))
      ∙ ap made_of (front-is t p few))
      s

-- What is said.

module _ (v : ℕ) (word : List ℕ) (number : ℕ) where
  pub turn-refused : passed (answer_of v).refusal ≡ false → told (refusal_line (answer_of v).refusal) ≡ turn_of v word number
  unfolding turn_of
  turn-refused e = rw e

  pub turn-found : passed (answer_of v).refusal ≡ true → {p : Found} → p ≡ place_of v word → turn_at v p number ≡ turn_of v word number
  unfolding turn_of
  turn-found sound is = rw (sound, ← is)
