-- From a test that antt computes to the fact at each entry: what holds of a whole list by computing holds at every index of it.
use mathlib.Core.Path.{◌≡◌, refl, sym, ap, subst, ◌∙◌}
use mathlib.Core.Bool.{Bool, true, false, cond, ◌&&◌}
use mathlib.Core.List.{List, [], ◌∷◌, Memᴰ}
use Prim.Native.Nat.{ℕ, zero, suc, ◌+◌, ◌≤◌, ◌<◌}
use native.Mathlib.Nat.{add-zero, add-suc, suc-add, zero-add, le_of_suc-le-suc, not-suc-le-zero}
use native.Mathlib.Omega.{arith}
use lib.Dec.{T, eqb, eqb→eq}
use lib.ListN.{length, get_or}
use borrow.Author.Tests.{eq-eqb}
use Rattle.promise.specs.Member.{member}

pub both_left : (a b : Bool) → T (a && b) → T a
both_left true b t = tt
both_left false b t = t

pub both_right : (a b : Bool) → T (a && b) → T b
both_right true b t = t
both_right false b t = absurd t

pub both_intro : (a b : Bool) → T a → T b → T (a && b)
both_intro true b s t = t
both_intro false b s t = s

pub true_is : (b : Bool) → T b → b ≡ true
true_is true t = refl
true_is false t = absurd t

pub false_is : (b : Bool) → (T b → ⊥) → b ≡ false
false_is true h = absurd (h tt)
false_is false h = refl

pub is_true : {b : Bool} → b ≡ true → T b
is_true e = subst T (sym e) tt

-- a test that passes at each entry of a list and its index, counted from i
abbrev pub every : {A : Type 0} → (ℕ → A → Bool) → ℕ → List A → Bool
every f i [] = true
every f i (x ∷ xs) = f i x && every f (suc i) xs

every-from : {A : Type 0} (f : ℕ → A → Bool) (xs : List A) (d : A) (i : ℕ) → T (every f i xs) → (k : ℕ) → k < length xs → T (f (i + k) (get_or xs k d))
every-from f [] d i t k h = absurd (not-suc-le-zero h)
every-from f (x ∷ xs) d i t zero h = subst (λ m. T (f m x)) (sym (add-zero i)) (both_left (f i x) (every f (suc i) xs) t)
every-from f (x ∷ xs) d i t (suc k) h =
    subst (λ m. T (f m (get_or xs k d))) (suc-add i k ∙ sym (add-suc i k))
    (every-from f xs d (suc i) (both_right (f i x) (every f (suc i) xs) t) k (le_of_suc-le-suc h))

pub every-at : {A : Type 0} (f : ℕ → A → Bool) (xs : List A) (d : A) → T (every f 0 xs) → (k : ℕ) → k < length xs → T (f k (get_or xs k d))
every-at f xs d t k h = subst (λ m. T (f m (get_or xs k d))) (zero-add k) (every-from f xs d 0 t k h)

-- a test that passes at each of n numbers from i on
abbrev pub from : (ℕ → Bool) → ℕ → ℕ → Bool
from p i zero = true
from p i (suc n) = p i && from p (suc i) n

pub from_at : (p : ℕ → Bool) (i n k : ℕ) → T (from p i n) → k < n → T (p (i + k))
from_at p i zero k t h = absurd (not-suc-le-zero h)
from_at p i (suc n) zero t h = subst (λ m. T (p m)) (sym (add-zero i)) (both_left (p i) (from p (suc i) n) t)
from_at p i (suc n) (suc k) t h =
    subst (λ m. T (p m)) (suc-add i k ∙ sym (add-suc i k)) (from_at p (suc i) n k (both_right (p i) (from p (suc i) n) t) (le_of_suc-le-suc h))

-- what the last arm of a match on k numbers from a on knows
abbrev pub Others : ℕ → ℕ → ℕ → Type 0
Others a n zero = Unit {0}
Others a n (suc k) = Others a n k × (n ≡ a + k → ⊥)

pub others_le : (a n k : ℕ) → a ≤ n → Others a n k → a + k ≤ n
others_le a n zero l o = omega arith
others_le a n (suc k) l o = let h : n ≡ a + k → ⊥ = o.1 in omega (arith, others_le a n k l o.0)

-- the values of f from i on, n of them: what a constant array lists
abbrev pub tab : (ℕ → ℕ) → ℕ → ℕ → List ℕ
tab f i zero = []
tab f i (suc n) = f i ∷ tab f (suc i) n

tab-from : (f : ℕ → ℕ) (i n k : ℕ) → k < n → get_or (tab f i n) k 0 ≡ f (i + k)
tab-from f i zero k h = absurd (not-suc-le-zero h)
tab-from f i (suc n) zero h = sym (ap f (add-zero i))
tab-from f i (suc n) (suc k) h = tab-from f (suc i) n k (le_of_suc-le-suc h) ∙ ap f (suc-add i k ∙ sym (add-suc i k))

pub tab-at : (f : ℕ → ℕ) (n k : ℕ) → k < n → get_or (tab f 0 n) k 0 ≡ f k
tab-at f n k h = tab-from f 0 n k h ∙ ap f (zero-add k)

-- Membership and its computed test.

pub or_left : (a b : Bool) → T a → T (cond a true b)
or_left true b t = tt
or_left false b t = absurd t

pub or_right : (a b : Bool) → T b → T (cond a true b)
or_right true b t = tt
or_right false b t = t

pub member_of : (x : ℕ) (ys : List ℕ) → Memᴰ x ys → T (member x ys)
member_of x [] m = elim m [ ]
member_of x (y ∷ ys) (Memᴰ.head e) = or_left (eqb x y) (member x ys) (is_true (eq-eqb x y e))
member_of x (y ∷ ys) (Memᴰ.tail m) = or_right (eqb x y) (member x ys) (member_of x ys m)

pub of-member : (x : ℕ) (ys : List ℕ) → T (member x ys) → Memᴰ x ys
of-member x [] t = absurd t
of-member x (y ∷ ys) t = by (eqb x y) refl t (of-member x ys)
  where
    by : (b : Bool) → eqb x y ≡ b → T (cond b true (member x ys)) → (T (member x ys) → Memᴰ x ys) → Memᴰ x (y ∷ ys)
    by true e s rest = Memᴰ.head (eqb→eq x y (is_true e))
    by false e s rest = Memᴰ.tail (rest s)

-- what a test shows of every entry it shows of each
pub every_mem : {A : Type 0} (f : ℕ → A → Bool) (x : A) (i : ℕ) (xs : List A) → T (every f i xs) → Memᴰ x xs → (j : ℕ) × T (f j x)
every_mem f x i [] t m = elim m [ ]
every_mem f x i (y ∷ ys) t (Memᴰ.head e) = (i, subst (λ z. T (f i z)) (sym e) (both_left (f i y) (every f (suc i) ys) t))
every_mem f x i (y ∷ ys) t (Memᴰ.tail m) = every_mem f x (suc i) ys (both_right (f i y) (every f (suc i) ys) t) m
