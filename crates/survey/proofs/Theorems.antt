-- What the counts come to: together they are the number of values, since each value is at one place; those of two parts add up, by induction over the
-- first part; and none passes 32 bits.
use Prim.Native.Nat.{ℕ, zero, suc, ◌+◌, ◌^◌, ◌≤◌, ◌<◌}
use mathlib.Core.Bool.{Bool, true, false}
use mathlib.Core.List.{List, [], ◌∷◌, ◌++◌}
use mathlib.Core.Path.{◌≡◌, refl, ap, ◌∙◌}
use native.Mathlib.Nat.{zero-add}
use native.Mathlib.Omega.{arith}
use lib.Dec.{eqb}
use lib.ListN.{length, get_or, take}
use borrow.Author.Tests.{eqb-true, eqb-false, ne_eqb}
use Rattle.esr.specs.Decode.{class_of}
use Rattle.refusals.specs.Values.{value_numbers}
use Rattle.refusals.proofs.Laws.{place_or_9}
use Rattle.strict.specs.declared.Profile.{Profile}
use Rattle.strict.specs.declared.Profile.TheVariants.{Ordinary}
use Rattle.survey.specs.Surveys.{how_many, counts, is_of_class, is_refused_at, class_counts, refused_counts}
use Rattle.survey.proofs.Laws.{one, count_le, counts-at}
use Rattle.survey.proofs.Classes.{number_of, class-small, accepted-class, accepted-number, refused-class, refused-small, refused-place, ordinary-small}

unfoldable pub total : List ℕ → ℕ
total [] = 0
total (n ∷ ns) = n + total ns

module _ (is : ℕ → ℕ → Bool) where
  -- what one value adds to the counts of n numbers from k on
  unfoldable ones : ℕ → ℕ → ℕ → ℕ
  ones k zero v = 0
  ones k (suc n) v = one (is k v) + ones (suc k) n v

  total-none : (k n : ℕ) → total (counts is k n []) ≡ 0
  unfolding total counts how_many
  total-none k zero = refl
  total-none k (suc n) = omega (arith, total-none (suc k) n)

  total-more : (k n v : ℕ) (vs : List ℕ) → total (counts is k n (v ∷ vs)) ≡ ones k n v + total (counts is k n vs)
  unfolding total counts how_many ones
  total-more k zero v vs = refl
  total-more k (suc n) v vs = let h = total-more (suc k) n v vs in omega arith

  module _ (v : ℕ) where
    ones-nowhere : (k n : ℕ) → ((q : ℕ) → k ≤ q → q < k + n → is q v ≡ false) → ones k n v ≡ 0
    unfolding ones
    ones-nowhere k zero e = refl
    ones-nowhere k (suc n) e =
        let h : one (is k v) ≡ 0 = ap one (e k (omega arith) (omega arith)) in
        let m = ones-nowhere (suc k) n (λ q l h. e q (omega arith) (omega arith)) in
        omega arith

    ones-there : (c m : ℕ) → ((q : ℕ) → q < m → is q v ≡ eqb c q) → (k n : ℕ) → k + n ≤ m → k ≤ c → c < k + n → ones k n v ≡ 1
    unfolding ones
    ones-there c m e k zero w l h = absurd (omega arith)
    ones-there c m e k (suc n) w l h = by (eqb c k) refl (ones-there c m e (suc k) n (omega arith))
      where
        by : (b : Bool) → eqb c k ≡ b → (suc k ≤ c → c < suc k + n → ones (suc k) n v ≡ 1) → one (is k v) + ones (suc k) n v ≡ 1
        by true f more =
            let g : one (is k v) ≡ 1 = ap one (e k (omega arith) ∙ f) in
            let none = ones-nowhere (suc k) n (λ q a b. e q (omega arith) ∙ ne_eqb c q (λ same. omega (arith, eqb-true c k f, same, a))) in
            omega arith
        by false f more =
            let g : one (is k v) ≡ 0 = ap one (e k (omega arith) ∙ f) in
            let d : c ≡ k → ⊥ = eqb-false c k f in
            let rest = more (omega (arith, d)) (omega arith) in
            omega arith

  -- the counts of a run of two parts are the sums of those of the parts
  count-parts : (k : ℕ) (xs ys : List ℕ) → how_many (is k) (xs ++ ys) ≡ how_many (is k) xs + how_many (is k) ys
  unfolding how_many
  count-parts k [] ys = omega arith
  count-parts k (x ∷ xs) ys = let h = count-parts k xs ys in omega arith

-- the sums of two tables, place by place
unfoldable pub sums : List ℕ → List ℕ → List ℕ
sums [] ns = []
sums (m ∷ ms) [] = []
sums (m ∷ ms) (n ∷ ns) = (m + n) ∷ sums ms ns

parts_add : (is : ℕ → ℕ → Bool) (k n : ℕ) (xs ys : List ℕ) → counts is k n (xs ++ ys) ≡ sums (counts is k n xs) (counts is k n ys)
unfolding counts sums
parts_add is k zero xs ys = refl
parts_add is k (suc n) xs ys = rw (count-parts is k xs ys, parts_add is (suc k) n xs ys) refl

pub class-parts : (profile : Profile) (xs ys : List ℕ) → class_counts profile (xs ++ ys) ≡ sums (class_counts profile xs) (class_counts profile ys)
class-parts profile = parts_add (is_of_class profile) 0 64

pub refused-parts : (profile : Profile) (xs ys : List ℕ) → refused_counts profile (xs ++ ys) ≡ sums (refused_counts profile xs) (refused_counts profile ys)
refused-parts profile = parts_add (is_refused_at profile) 0 9

module _ (profile : Profile) where
  abbrev is_class : ℕ → ℕ → Bool
  is_class = is_of_class profile

  abbrev is_refused : ℕ → ℕ → Bool
  is_refused = is_refused_at profile

  -- a value adds one to all counts together
  one_place : (v : ℕ) → ones is_class 0 64 v + ones is_refused 0 9 v ≡ 1
  one_place v = by (eqb (number_of profile v) 0) refl
    where
      by : (b : Bool) → eqb (number_of profile v) 0 ≡ b → ones is_class 0 64 v + ones is_refused 0 9 v ≡ 1
      by true f =
          let h = eqb-true (number_of profile v) 0 f in
          let c = ones-there is_class v (class_of v) 64 (accepted-class profile v h) 0 64 (omega arith) (omega arith) (class-small profile v) in
          let r = ones-nowhere is_refused v 0 9 (λ q l. accepted-number profile v h q) in
          omega arith
      by false f =
          let h = eqb-false (number_of profile v) 0 f in
          let c = ones-nowhere is_class v 0 64 (λ q l. refused-class profile v h q) in
          let r = ones-there is_refused v (place_or_9 (number_of profile v)) 9 (refused-place profile v h) 0 9 (omega arith) (omega arith) (refused-small profile v h) in
          omega arith

  -- all counts together equal the number of values
  pub all-counted : (vs : List ℕ) → total (class_counts profile vs) + total (refused_counts profile vs) ≡ length vs
  all-counted [] = omega (arith, total-none is_class 0 64, total-none is_refused 0 9)
  all-counted (v ∷ vs) = omega (arith, total-more is_class 0 64 v vs, total-more is_refused 0 9 v vs, one_place v, all-counted vs)

-- the ordinary decoder refuses by none but 1 to 7, so that their counts are all
ordinary-none : (vs : List ℕ) → (how_many (is_refused_at Ordinary 7) vs ≡ 0) × (how_many (is_refused_at Ordinary 8) vs ≡ 0)
unfolding how_many is_refused_at value_numbers
ordinary-none [] = (refl, refl)
ordinary-none (v ∷ vs) =
    let more = ordinary-none vs in
    (rw (ne_eqb (number_of Ordinary v) 24 (λ e. omega (arith, e, ordinary-small v))) (zero-add (how_many (is_refused_at Ordinary 7) vs) ∙ more.0), rw (ne_eqb (number_of Ordinary v) 25 (λ e. omega (arith, e, ordinary-small v))) (zero-add (how_many (is_refused_at Ordinary 8) vs) ∙ more.1))

pub ordinary-total : (vs : List ℕ) → total (take 7 (refused_counts Ordinary vs)) ≡ total (refused_counts Ordinary vs)
unfolding total counts
ordinary-total vs = let n = ordinary-none vs in omega (arith, n.0, n.1)

-- no count of a run that is not refused passes 32 bits
pub counts-fit : (is : ℕ → ℕ → Bool) (k n : ℕ) (vs : List ℕ) → length vs < 2 ^ 32 → (p : ℕ) → p < n → get_or (counts is k n vs) p 0 < 2 ^ 32
counts-fit is k n vs h p l = omega (arith, counts-at is k n vs p l, count_le is (k + p) vs)
