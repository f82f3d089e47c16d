-- #107, numbers inside a line: the number stands before the first stop, and the rest of the input begins with it.
use Prim.Native.Char.{code}
use Rattle.std.specs.Prelude.{ℕ, Bool, true, cond, not, ◌&&◌, ◌||◌, List, [], ◌∷◌, length, ◌==◌, Result, Ok, Err}
use Rattle.number.specs.Numbers.{number_of}
use Rattle.number.specs.declared.Number.{Number}
use Rattle.number.specs.declared.NumberRead.{NumberRead}
use Rattle.refusals.specs.Refusals.{bare, passed}
use Rattle.refusals.specs.declared.Reason.TheVariants.{BadRest}
use Rattle.refusals.specs.declared.Refusal.{Refusal}

-- "space, tab, carriage return or line feed"
unfoldable pub is_stop : ℕ → Bool
is_stop b = b == (code " ") || b == (code "\t") || b == (code "\r") || b == (code "\n")

-- the bytes before the first stop
unfoldable pub before_stop : List ℕ → List ℕ
before_stop [] = []
before_stop (b ∷ bs) = cond (is_stop b) [] (b ∷ before_stop bs)

-- the rest: from the first stop on
unfoldable pub rest_of : List ℕ → List ℕ
rest_of [] = []
rest_of (b ∷ bs) = cond (is_stop b) (b ∷ bs) (rest_of bs)

-- no byte is a stop; each byte is one
unfoldable pub no_stop : List ℕ → Bool
no_stop [] = true
no_stop (b ∷ bs) = not (is_stop b) && no_stop bs

unfoldable pub are_stops : List ℕ → Bool
are_stops [] = true
are_stops (b ∷ bs) = is_stop b && are_stops bs

-- a number that these many bytes stand for, or its refusal, which has none
abbrev pub taking : Number → ℕ → Result NumberRead Refusal
taking n bytes = cond (passed n.refusal) (Ok (record { value = n.value; taken = bytes })) (Err n.refusal)

-- the number at the front of an input, "and how many bytes it took"
unfoldable pub read_of : List ℕ → Result NumberRead Refusal
read_of s = taking (number_of (before_stop s)) (length (before_stop s))

-- "and how many bytes it took": "a refusal still takes 0 bytes"
abbrev pub taken_in : Result NumberRead Refusal → ℕ
taken_in (Ok r) = r.taken
taken_in (Err f) = 0

-- 23, "a rest that has anything but those four bytes"
abbrev pub bad_rest : Number
bad_rest = record { value = 0; refusal = bare BadRest }

-- 8 to 10 of the number first, then 23 of the rest
abbrev pub whole_by : Number → Bool → Number
whole_by n stops = cond (passed n.refusal && not stops) bad_rest n

-- "a whole input as one number"
unfoldable pub whole_of : List ℕ → Number
whole_of s = whole_by (number_of (before_stop s)) (are_stops (rest_of s))
