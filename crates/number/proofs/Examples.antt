-- 01's and #107's examples and their like, computed: the text, the number of its refusal, the value; of a number inside a line how many bytes it takes.
use Prim.Native.Char as C
use Rattle.std.proofs.Common.{ℕ, ◌-◌, ◌^◌, Bool, ◌&&◌, T, eqb, List, [], ◌∷◌}
use Prim.Native.String.{String}
use Prim.Native.String as S
use Rattle.number.specs.Digits.{digit_of}
use Rattle.number.specs.Numbers.{read_digit, read_digits, starts_with, number_in, number_of}
use Rattle.std.specs.Prelude.{Result, Ok, Err}
use Rattle.number.specs.declared.NumberRead.{NumberRead}
use Rattle.refusals.specs.declared.Refusal.{Refusal}
use Rattle.number.specs.Rest.{is_stop, before_stop, rest_of, are_stops, read_of, whole_of}
use Rattle.promise.proofs.Tests.{every}
use Rattle.refusals.specs.Refusals.{refusal_number}

unfoldable bytes : String → List ℕ
bytes S.[] = []
bytes (S.◌∷◌ c s) = C.code c ∷ bytes s

-- A whole input.

record Whole : Type 0 where
  text : String
  refusal : ℕ
  value : ℕ

abbrev is : String → ℕ → Whole
is t v = record { text = t; refusal = 0; value = v }

abbrev refuses : String → ℕ → Whole
refuses t n = record { text = t; refusal = n; value = 0 }

abbrev wholes : List Whole
wholes =
    is "0x+f" 15 ∷
    is "0xaF" 175 ∷
    is "+7" 7 ∷
    is "000000000000000000000000000000012" 12 ∷
    is "18446744073709551615" (2 ^ 64 - 1) ∷
    is "0xFFFFffffFFFFffff" (2 ^ 64 - 1) ∷
    is "12 \t\r\n" 12 ∷
    refuses "" 8 ∷
    refuses "0x" 8 ∷
    refuses " 12" 8 ∷
    refuses "0x\t1" 8 ∷
    refuses "+" 9 ∷
    refuses "0x+" 9 ∷
    refuses "++1" 9 ∷
    refuses "+0x1" 9 ∷
    refuses "0X1f" 9 ∷
    refuses "1f" 9 ∷
    refuses "12x 3" 9 ∷
    refuses "18446744073709551616" 10 ∷
    refuses "18446744073709551616x" 10 ∷
    refuses "0x10000000000000000" 10 ∷
    refuses "12 3" 23 ∷
    refuses "12 \t\r\nx" 23 ∷
    []

abbrev holds : ℕ → Whole → Bool
holds at e =
    eqb (refusal_number (whole_of (bytes e.text)).refusal) e.refusal && eqb (whole_of (bytes e.text)).value e.value

all_hold : T (every holds 0 wholes)
unfolding bytes digit_of read_digit read_digits starts_with number_in number_of is_stop before_stop rest_of are_stops whole_of
all_hold = tt

-- The number at the front.

record Front : Type 0 where
  text : String
  refusal : ℕ
  value : ℕ
  taken : ℕ

abbrev takes : String → ℕ → ℕ → Front
takes t k v = record { text = t; refusal = 0; value = v; taken = k }

abbrev takes_none : String → ℕ → Front
takes_none t n = record { text = t; refusal = n; value = 0; taken = 0 }

abbrev fronts : List Front
fronts =
    takes "0x+f rest" 4 15 ∷
    takes "12\n" 2 12 ∷
    takes "7" 1 7 ∷
    takes_none "\r1" 8 ∷
    takes_none "0x rest" 8 ∷
    takes_none "+ 1" 9 ∷
    takes_none "0xg " 9 ∷
    takes_none "1,2 " 9 ∷
    []

abbrev is_it : Result NumberRead Refusal → Front → Bool
is_it (Ok r) e = eqb 0 e.refusal && eqb r.value e.value && eqb r.taken e.taken
is_it (Err f) e = eqb (refusal_number f) e.refusal && eqb 0 e.value && eqb 0 e.taken

abbrev takes_it : ℕ → Front → Bool
takes_it at e = is_it (read_of (bytes e.text)) e

all-taken : T (every takes_it 0 fronts)
unfolding bytes digit_of read_digit read_digits starts_with number_in number_of is_stop before_stop read_of
all-taken = tt
