-- Texts and tests of the numbers below a number, in order.
use Rattle.std.specs.Prelude.{ℕ, zero, suc, Bool, false, ◌||◌, List, [], ◌++◌}

unfoldable pub below : (ℕ → List ℕ) → ℕ → List ℕ
below text zero = []
below text (suc n) = below text n ++ text n

-- whether a test passes at one of them
unfoldable pub some_below : (ℕ → Bool) → ℕ → Bool
some_below f zero = false
some_below f (suc n) = some_below f n || f n
