-- A rule in numbers, as the code holds it: the values that it has a text for, as bits, and its first code.
use Rattle.std.specs.Prelude.{ℕ, zero, suc, ◌+◌, ◌*◌, ◌/◌, ◌%◌, ◌^◌, Bool, true, false, cond, eqb, ltb}
use Rattle.texts.specs.Pool.{describes, first_of}
use Rattle.lookup.specs.declared.Descriptions.{Descriptions}

abbrev pub bit : Bool → ℕ
bit true = 1
bit false = 0

-- the bits f k, f (k + 1), .., n of them, the first lowest
unfoldable pub bits_of : (ℕ → Bool) → ℕ → ℕ → ℕ
bits_of f k zero = 0
bits_of f k (suc n) = bits_of f (suc k) n * 2 + bit (f k)

unfoldable pub numbers_of : ℕ → Descriptions
numbers_of rule = (bits_of (describes rule) 0 64, first_of rule)

-- whether a bit is set; there are 64
unfoldable pub bit_in : ℕ → ℕ → Bool
bit_in values value = cond (ltb value 64) (eqb (values / 2 ^ value % 2) 1) false
