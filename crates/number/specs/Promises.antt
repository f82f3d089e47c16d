-- What each public function promises. A promise takes what comes in, then what comes out.
use Rattle.std.specs.Prelude.{◌≡◌, ℕ, Bool, List, Result}
use Rattle.number.specs.Rest.{read_of, whole_of}
use Rattle.number.specs.Steps.{start, step_of, has_character, finish_of, finish_before_of}
use Rattle.number.specs.declared.Number.{Number}
use Rattle.number.specs.declared.NumberRead.{NumberRead}
use Rattle.number.specs.declared.NumberState.{NumberState}
use Rattle.refusals.specs.declared.Refusal.{Refusal}

-- the state before the first byte
abbrev pub Started : Unit {0} → NumberState → Type 0
Started i r = r ≡ start

-- the state after one byte more, whatever the state
abbrev pub Stepped : NumberState × ℕ → NumberState → Type 0
Stepped (st, b) r = r ≡ step_of st b

-- whether there was a byte
abbrev pub Opened : NumberState → Bool → Type 0
Opened st r = r ≡ has_character st.stage

-- the number of the bytes that led to a state: they are one whole number, and a rest of anything but stops is refused
abbrev pub Finished : NumberState → Number → Type 0
Finished st r = r ≡ finish_of st

-- the number that they begin with: the rest is passed over
abbrev pub FinishedBefore : NumberState → Number → Type 0
FinishedBefore st r = r ≡ finish_before_of st

-- the number at the front of an input, and how many bytes it took: the rest is the caller's
abbrev pub TookNumber : List ℕ → Result NumberRead Refusal → Type 0
TookNumber s r = r ≡ read_of s

-- the number of a whole input: a rest of anything but stops is refused
abbrev pub Parsed : List ℕ → Number → Type 0
Parsed s r = r ≡ whole_of s
