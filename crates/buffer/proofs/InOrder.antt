-- The texts of items in order grow by one item's text at each turn of a loop: by induction on the items.
use mathlib.Core.Path.{◌≡◌, refl, sym, ap, ap₂, ◌∙◌}
use mathlib.Core.List.{List, [], ◌∷◌, ◌++◌, append-nil, append_assoc}
use Prim.Native.Nat.{ℕ, zero, suc, ◌+◌, ◌<◌}
use native.Mathlib.Nat.{not-suc-le-zero, le_of_suc-le-suc, add-zero, add-suc, suc-add, zero-add}
use native.Mathlib.Numerals.{add-one}
use lib.ListN.{length, take, get_or}
use Rattle.buffer.specs.InOrder.{each_from, in_order}

module _ {A : Type 0} (text : ℕ → A → List ℕ) where
  more-from : (k : ℕ) (xs : List A) (i : ℕ) (d : A) → i < length xs
      → each_from text k (take (suc i) xs) ≡ each_from text k (take i xs) ++ text (k + i) (get_or xs i d)
  unfolding each_from
  more-from k [] i d h = absurd (not-suc-le-zero h)
  more-from k (x ∷ xs) zero d h = append-nil (text k x) ∙ ap (λ (j : ℕ). text j x) (sym (add-zero k))
  more-from k (x ∷ xs) (suc i) d h =
      ap (λ (t : List ℕ). text k x ++ t) (more-from (suc k) xs i d (le_of_suc-le-suc h))
      ∙ sym (append_assoc (text k x) (each_from text (suc k) (take i xs)) (text (suc k + i) (get_or xs i d)))
      ∙ ap (λ (j : ℕ). (text k x ++ each_from text (suc k) (take i xs)) ++ text j (get_or xs i d)) (suc-add k i ∙ sym (add-suc k i))

  pub one_more : (xs : List A) (i : ℕ) (d : A) → i < length xs → in_order text (take (i + 1) xs) ≡ in_order text (take i xs) ++ text i (get_or xs i d)
  one_more xs i d h =
      ap (λ (j : ℕ). in_order text (take j xs)) (add-one i)
      ∙ more-from 0 xs i d h
      ∙ ap (λ (j : ℕ). in_order text (take i xs) ++ text j (get_or xs i d)) (zero-add i)

  pub no_items : in_order text [] ≡ []
  unfolding each_from
  no_items = refl

-- where each item's text is the same, so are the texts in order
pub each_same : {A : Type 0} {f g : ℕ → A → List ℕ} → ((k : ℕ) (x : A) → f k x ≡ g k x) → (k : ℕ) (xs : List A) → each_from f k xs ≡ each_from g k xs
unfolding each_from
each_same same k [] = refl
each_same same k (x ∷ xs) = ap₂ (λ (a b : List ℕ). a ++ b) (same k x) (each_same same (suc k) xs)
