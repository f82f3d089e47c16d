-- 01's numbers: the base, then the sign, then the characters from left to right, in numbers without a bound.
use Prim.Native.Char.{code}
use Rattle.std.specs.Prelude.{ℕ, ◌+◌, ◌-◌, ◌*◌, ◌^◌, Bool, true, false, cond, not, ◌&&◌, List, [], ◌∷◌, length, drop, ◌==◌, nat_le, nat_lt}
use Rattle.number.specs.Digits.{base_of, digit_of}
use Rattle.number.specs.declared.Number.{Number}
use Rattle.number.specs.declared.NumberState.{NumberState}
use Rattle.number.specs.declared.Stage.TheVariants.{Digits}
use Rattle.refusals.specs.Refusals.{bare, passed}
use Rattle.refusals.specs.declared.Reason.{Reason}
use Rattle.refusals.specs.declared.Reason.TheVariants.{Empty, InvalidDigit, None, PosOverflow}

-- The digits.

-- the state where digits are read
abbrev pub in_digits : Bool → ℕ → Reason → NumberState
in_digits hex value reason = record { value = value; reason = reason; hex = hex; stage = Digits }

abbrev pub refused : Reason → Bool
refused reason = not (passed (bare reason))

-- the result with one digit more
abbrev pub grown : NumberState → ℕ → ℕ
grown st b = st.value * base_of st.hex + digit_of b

-- one character: not a digit is 9; a digit that takes the result past 2^64-1 is 10
unfoldable pub read_digit : NumberState → ℕ → NumberState
read_digit st b =
    cond (nat_le (base_of st.hex) (digit_of b)) (in_digits st.hex 0 InvalidDigit)
    (cond (nat_lt (2 ^ 64 - 1) (grown st b)) (in_digits st.hex 0 PosOverflow)
    (in_digits st.hex (grown st b) st.reason))

-- characters go left to right; the first offender answers
unfoldable pub read_digits : NumberState → List ℕ → NumberState
read_digits st [] = st
read_digits st (b ∷ bs) = cond (refused st.reason) st (read_digits (read_digit st b) bs)

-- The whole input.

unfoldable pub starts_with : List ℕ → List ℕ → Bool
starts_with [] s = true
starts_with (p ∷ ps) [] = false
starts_with (p ∷ ps) (b ∷ bs) = b == p && starts_with ps bs

-- an exact "0x" selects base 16
abbrev pub is_hex : List ℕ → Bool
is_hex s = starts_with (code "0" ∷ code "x" ∷ []) s

abbrev pub unprefixed : List ℕ → List ℕ
unprefixed s = cond (is_hex s) (drop 2 s) s

-- one "+" may stand if a character follows
abbrev pub signed : List ℕ → Bool
signed s = starts_with (code "+" ∷ []) s && nat_lt 1 (length s)

abbrev pub unsigned : List ℕ → List ℕ
unsigned s = cond (signed s) (drop 1 s) s

-- the characters that are read as digits
abbrev pub digits_in : List ℕ → List ℕ
digits_in s = unsigned (unprefixed s)

abbrev pub number_from : NumberState → Number
number_from st = record { value = st.value; refusal = bare st.reason }

-- a number in a base: without characters it is 8
unfoldable pub number_in : Bool → List ℕ → Number
number_in hex s = cond (length s == 0) (record { value = 0; refusal = bare Empty }) (number_from (read_digits (in_digits hex 0 None) (unsigned s)))

unfoldable pub number_of : List ℕ → Number
number_of s = number_in (is_hex s) (unprefixed s)
