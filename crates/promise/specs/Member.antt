-- Whether a number is on a list, as a test that computes.
use Rattle.std.specs.Prelude.{ℕ, Bool, true, false, cond, List, [], ◌∷◌, eqb}

abbrev pub member : ℕ → List ℕ → Bool
member x [] = false
member x (y ∷ ys) = cond (eqb x y) true (member x ys)
