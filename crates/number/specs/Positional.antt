-- What a text stands for, said by the positions of its digits and without the fold: the theorems hold the fold to it.
use Prim.Native.Char.{code}
use Rattle.std.specs.Prelude.{◌≡◌, ℕ, ◌+◌, ◌*◌, ◌^◌, ◌<◌, Bool, true, cond, ◌&&◌, T, List, [], ◌∷◌, length, nat_lt}
use Rattle.number.specs.Digits.{base_of, digit_of}
use Rattle.number.specs.Numbers.{is_hex, unprefixed, digits_in}

unfoldable pub are_digits : ℕ → List ℕ → Bool
are_digits base [] = true
are_digits base (b ∷ bs) = nat_lt (digit_of b) base && are_digits base bs

-- highest position first: a digit with n digits after it is worth its value times base ^ n
unfoldable pub positional_value : ℕ → List ℕ → ℕ
positional_value base [] = 0
positional_value base (b ∷ bs) = digit_of b * base ^ length bs + positional_value base bs

-- a text stands for a value: something follows any "0x"; past one "+" there are digits of the base alone; the value is theirs by
-- their positions, and has 64 bits
pub record StandsFor (s : List ℕ) (v : ℕ) : Type 0 where
  pub some : 0 < length (unprefixed s)
  pub digits : T (are_digits (base_of (is_hex s)) (digits_in s))
  pub worth : v ≡ positional_value (base_of (is_hex s)) (digits_in s)
  pub small : v < 2 ^ 64

-- what selects a base
abbrev pub prefix_of : Bool → List ℕ
prefix_of hex = cond hex (code "0" ∷ code "x" ∷ []) []
