-- A chain of appenders, and a loop that writes, leave one text: both are runs of stores, one after the other.
use mathlib.Core.Path.{◌≡◌, refl, sym, ap, ◌∙◌}
use mathlib.Core.List.{List, [], ◌∷◌, ◌++◌}
use Prim.Native.Nat.{ℕ, suc, ◌+◌, ◌<◌}
use native.Mathlib.Nat.{add-zero, add-suc, suc-add, le_of_lt}
use native.Mathlib.Numerals.{add-one}
use native.Mathlib.Omega.{arith}
use lib.ListN.{length, take, get_or, set}
use lib.Seq.{sets, set_comm, take-suc, length-take-le}

-- one text after another is both at once
pub sets-append : (l : List ℕ) (i : ℕ) (xs ys : List ℕ) → sets (sets l i xs) (i + length xs) ys ≡ sets l i (xs ++ ys)
sets-append l i [] ys = rw (add-zero i)
sets-append l i (x ∷ xs) ys = rw (add-suc i (length xs), ← suc-add i (length xs)) (sets-append (set l i x) (suc i) xs ys)

-- a store before a run goes past it
pub set-sets : (l : List ℕ) (i j : ℕ) (a : ℕ) (vs : List ℕ) → i < j → set (sets l j vs) i a ≡ sets (set l i a) j vs
set-sets l i j a [] h = refl
set-sets l i j a (v ∷ vs) h =
    set-sets (set l j v) i (suc j) a vs (omega arith) ∙ ap (λ (m : List ℕ). sets m (suc j) vs) (set_comm l j i v a (λ e. omega arith))

-- a loop that writes a list from its front: a turn
pub turn : (l : List ℕ) (at : ℕ) (s : List ℕ) (j : ℕ) → j < length s
    → set (sets l at (take j s)) (at + j) (get_or s j 0) ≡ sets l at (take (j + 1) s)
turn l at s j h =
    let e : length (take j s) ≡ j = length-take-le j s (le_of_lt h) in
    ap (λ (k : ℕ). set (sets l at (take j s)) (at + k) (get_or s j 0)) (sym e)
    ∙ sets-append l at (take j s) (get_or s j 0 ∷ [])
    ∙ ap (sets l at) (sym (take-suc s j 0 h) ∙ ap (λ (k : ℕ). take k s) (sym (add-one j)))
