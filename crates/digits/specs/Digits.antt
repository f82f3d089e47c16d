-- Digits of a number: as many as are asked for, in any base up to 16, highest first, small letters. How they are found is not said here.
use Rattle.std.specs.Prelude.{ℕ, zero, suc, ◌/◌, ◌%◌, ◌^◌, cond, List, [], ◌∷◌, ltb, get_or}
use Rattle.texts.specs.Pool.{bytes}
use Rattle.digits.specs.declared.Base.{Base}
use Rattle.digits.specs.declared.Base.TheVariants.{Binary, Decimal, Hex}

unfoldable pub digit_char : ℕ → ℕ
digit_char d = get_or (bytes "0123456789abcdef") d 0

-- digit n, counted from the lowest, is the number by base^n, without what stands above it
unfoldable pub digits_of : ℕ → ℕ → ℕ → List ℕ
digits_of base zero v = []
digits_of base (suc n) v = digit_char (v / base ^ n % base) ∷ digits_of base n v

-- the first of n, n + 1, .. digits that hold a number, after at most some tries
unfoldable pub enough : ℕ → ℕ → ℕ → ℕ → ℕ
enough base v n zero = n
enough base v n (suc tries) = cond (ltb v (base ^ n)) n (enough base v (suc n) tries)

-- unpadded: the fewest digits that hold the number, and one for 0; 64 hold every value in every base
unfoldable pub unpadded : ℕ → ℕ → ℕ
unpadded base v = enough base v 1 63

-- a number in full
abbrev pub numeral : ℕ → ℕ → List ℕ
numeral base v = digits_of base (unpadded base v) v

abbrev pub radix_of : Base → ℕ
radix_of Binary = 2
radix_of Decimal = 10
radix_of Hex = 16
