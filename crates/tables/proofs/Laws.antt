-- The rows of a table at known answers of its tests: conditions ask tests and nothing else, so that which rows a value has depends on the
-- answers alone.
use mathlib.Core.Path.{◌≡◌, refl, sym, ap, ap₂, ◌∙◌}
use mathlib.Core.Bool.{Bool, true, false, cond, not, ◌&&◌}
use mathlib.Core.List.{List, [], ◌∷◌, map}
use Prim.Native.Nat.{ℕ}
use lib.Dec.{T, eqb, eqb→eq}
use Rattle.promise.proofs.Tests.{both_left, both_right}
use Rattle.records.specs.declared.Row.{Row}
use Rattle.tables.specs.Shape.{Test, Condition, Line}
use Rattle.tables.specs.Applying.{met, keep}

-- Tests compared.

abbrev pub same_list : List ℕ → List ℕ → Bool
same_list [] [] = true
same_list [] (y ∷ ys) = false
same_list (x ∷ xs) [] = false
same_list (x ∷ xs) (y ∷ ys) = eqb x y && same_list xs ys

abbrev pub same : Test → Test → Bool
same s t = eqb s.start t.start && (eqb s.width t.width && same_list s.among t.among)

pub same-list : (xs ys : List ℕ) → T (same_list xs ys) → xs ≡ ys
same-list [] [] t = refl
same-list [] (y ∷ ys) t = absurd t
same-list (x ∷ xs) [] t = absurd t
same-list (x ∷ xs) (y ∷ ys) t =
    ap₂ ◌∷◌ (eqb→eq x y (both_left (eqb x y) (same_list xs ys) t)) (same-list xs ys (both_right (eqb x y) (same_list xs ys) t))

same_test : (s t : Test) → T (same s t) → s ≡ t
same_test s t h =
    let r : T (eqb s.width t.width && same_list s.among t.among) = both_right (eqb s.start t.start) _ h in
    let a : s.start ≡ t.start = eqb→eq s.start t.start (both_left (eqb s.start t.start) _ h) in
    let b : s.width ≡ t.width = eqb→eq s.width t.width (both_left (eqb s.width t.width) _ r) in
    let c : s.among ≡ t.among = same-list s.among t.among (both_right (eqb s.width t.width) _ r) in
    ap (λ (n : ℕ). record { start = n; width = s.width; among = s.among }) a
    ∙ ap (λ (n : ℕ). record { start = t.start; width = n; among = s.among }) b
    ∙ ap (λ (l : List ℕ). record { start = t.start; width = t.width; among = l }) c

-- Known tests and their answers.

abbrev pub known : List Test → Test → Bool
known [] t = false
known (s ∷ ss) t = cond (same t s) true (known ss t)

-- the answers bs of the tests ts
abbrev pub given : List Test → List Bool → Test → Bool
given [] bs t = false
given (s ∷ ss) [] t = false
given (s ∷ ss) (b ∷ bs) t = cond (same t s) b (given ss bs t)

abbrev pub knows_all : List Test → List Condition → Bool
knows_all ts [] = true
knows_all ts (c ∷ cs) = known ts c.test && knows_all ts cs

abbrev pub knows_lines : List Test → List Line → Bool
knows_lines ts [] = true
knows_lines ts (l ∷ ls) = knows_all ts l.conditions && knows_lines ts ls

-- the answers that a value gives to the tests are the value's own
module _ (f : Test → Bool) where
  found : (s t : Test) (b r m : Bool) → (T b → t ≡ s) → T (cond b true m) → (T m → r ≡ f t) → cond b (f s) r ≡ f t
  found s t true r m e q k = ap f (sym (e tt))
  found s t false r m e q k = k q

  pub given_is : (ts : List Test) (t : Test) → T (known ts t) → given ts (map f ts) t ≡ f t
  given_is [] t h = absurd h
  given_is (s ∷ ss) t h = found s t (same t s) (given ss (map f ss) t) (known ss t) (same_test t s) h (given_is ss t)

  met-is : (ts : List Test) (cs : List Condition) → T (knows_all ts cs) → met (given ts (map f ts)) cs ≡ met f cs
  met-is ts [] h = refl
  met-is ts (c ∷ cs) h =
      ap₂ (λ (a b : Bool). cond c.holds a (not a) && b) (given_is ts c.test (both_left (known ts c.test) (knows_all ts cs) h))
      (met-is ts cs (both_right (known ts c.test) (knows_all ts cs) h))

  pub keep-is : (ts : List Test) (ls : List Line) → T (knows_lines ts ls) → keep (given ts (map f ts)) ls ≡ keep f ls
  keep-is ts [] h = refl
  keep-is ts (l ∷ ls) h =
      ap₂ (λ (b : Bool) (rs : List Row). cond b (l.row ∷ rs) rs)
      (met-is ts l.conditions (both_left (knows_all ts l.conditions) (knows_lines ts ls) h))
      (keep-is ts ls (both_right (knows_all ts l.conditions) (knows_lines ts ls) h))
