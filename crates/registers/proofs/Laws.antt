-- A table whose keys rise holds a key once: it stands where a search by halves finds it, and nowhere where the search
-- finds none.
use mathlib.Core.Path.{◌≡◌, refl, sym, ap, ◌∙◌}
use mathlib.Core.Bool.{Bool, true, ◌&&◌}
use mathlib.Core.List.{List, [], ◌∷◌}
use Prim.Native.Nat.{ℕ, zero, suc, ◌≤◌, ◌<◌}
use native.Mathlib.Nat.{le_of_suc-le-suc, not-suc-le-zero}
use native.Mathlib.Omega.{arith}
use lib.Dec.{T, ltb, leb, leb→le}
use lib.ListN.{length, get_or}
use borrow.Author.Tests.{eq-eqb, ne_eqb}
use Rattle.std.proofs.lemmas.List.Sorted.{searched}
use Rattle.std.specs.List.Sorted.{IsBinarySearchResult}
use Rattle.std.specs.Ordering.{nat_cmp}
use Rattle.std.specs.Prelude.{Ok, Err}
use Rattle.promise.proofs.Tests.{both_left, both_right}
use Rattle.registers.specs.Registers.{Register, registers, place_in}

-- the keys of a table, in order
abbrev pub keys_of : List Register → List ℕ
keys_of [] = []
keys_of (r ∷ rs) = r.key ∷ keys_of rs

-- "sorted by key, no key twice": each key is above the one before it, and has 16 bits
abbrev pub rising : ℕ → List ℕ → Bool
rising low [] = true
rising low (k ∷ ks) = leb low k && (ltb k 0x10000 && rising (suc k) ks)

pub registers_sorted : T (rising 0 (keys_of registers))
unfolding registers
registers_sorted = tt

-- "at most 64": there are as many
pub registers-count : length registers ≡ 64
unfolding registers
registers-count = refl

rest_rises : (low x : ℕ) (xs : List ℕ) → T (rising low (x ∷ xs)) → T (rising (suc x) xs)
rest_rises low x xs t = both_right (ltb x 0x10000) _ (both_right (leb low x) _ t)

low-at : (low : ℕ) (xs : List ℕ) → T (rising low xs) → (i : ℕ) → i < length xs → low ≤ get_or xs i 0
low-at low [] t i h = absurd (not-suc-le-zero h)
low-at low (x ∷ xs) t zero h = leb→le low x (both_left (leb low x) _ t)
low-at low (x ∷ xs) t (suc i) h =
    let above : suc x ≤ get_or xs i 0 = low-at (suc x) xs (rest_rises low x xs t) i (le_of_suc-le-suc h) in
    omega (arith, leb→le low x (both_left (leb low x) _ t))

next_above : (low x : ℕ) (xs : List ℕ) → T (rising low (x ∷ xs)) → (i : ℕ) → i < length xs → x < get_or xs i 0
next_above low x xs t = low-at (suc x) xs (rest_rises low x xs t)

rising-up : (low : ℕ) (xs : List ℕ) → T (rising low xs)
    → (i j : ℕ) → i ≤ j → j < length xs → get_or xs i 0 ≤ get_or xs j 0
rising-up low [] t i j le h = absurd (not-suc-le-zero h)
rising-up low (x ∷ xs) t zero zero le h = omega arith
rising-up low (x ∷ xs) t (suc i) zero le h = absurd (omega arith)
rising-up low (x ∷ xs) t zero (suc j) le h = omega (arith, next_above low x xs t j (le_of_suc-le-suc h))
rising-up low (x ∷ xs) t (suc i) (suc j) le h =
    rising-up (suc x) xs (rest_rises low x xs t) i j (le_of_suc-le-suc le) (le_of_suc-le-suc h)

-- a key that stands at an index has that place: those before it are smaller
found : (k low : ℕ) (rs : List Register) → T (rising low (keys_of rs))
    → (i : ℕ) → i < length (keys_of rs) → get_or (keys_of rs) i 0 ≡ k → i ≡ place_in rs k
unfolding place_in
found k low [] t i h e = absurd (not-suc-le-zero h)
found k low (r ∷ rs) t zero h e = rw (eq-eqb k r.key (sym e)) refl
found k low (r ∷ rs) t (suc i) h e =
    let above : r.key < get_or (keys_of rs) i 0 = next_above low r.key (keys_of rs) t i (le_of_suc-le-suc h) in
    rw (ne_eqb k r.key (λ s. omega arith))
    (ap suc (found k (suc r.key) rs (rest_rises low r.key (keys_of rs) t) i (le_of_suc-le-suc h) e))

-- one that stands at no index is not there
nowhere : (k : ℕ) (rs : List Register)
    → ((i : ℕ) → i < length (keys_of rs) → get_or (keys_of rs) i 0 ≡ k → ⊥) → length rs ≡ place_in rs k
unfolding place_in
nowhere k [] n = refl
nowhere k (r ∷ rs) n =
    rw (ne_eqb k r.key (λ s. n 0 (omega arith) (sym s))) (ap suc (nowhere k rs (λ i h. n (suc i) (omega arith))))

-- The same of the table itself, for whatever array holds its keys.

module _ (key : ℕ) (l : List ℕ) (is : l ≡ keys_of registers) where
  up : (i j : ℕ) → i ≤ j → j < length l → get_or l i 0 ≤ get_or l j 0
  up = rw is (rising-up 0 (keys_of registers) registers_sorted)

  pub there : (i : ℕ) → IsBinarySearchResult (λ y. nat_cmp y key) l (Ok i) → i ≡ place_in registers key
  there i h =
      let at = searched l key (Ok i) h up in
      let within : i < length (keys_of registers) = rw (← is) at.0 in
      found key 0 registers registers_sorted i within (rw is at at.1)

  pub not_there : (i : ℕ) → IsBinarySearchResult (λ y. nat_cmp y key) l (Err i) → 64 ≡ place_in registers key
  not_there i h =
      let at = searched l key (Err i) h up in
      let none : (j : ℕ) → j < length l → get_or l j 0 ≡ key → ⊥ = λ j g e. grind (arith, at.1 j, at.2 j) in
      sym registers-count ∙ nowhere key registers (rw is at none)
