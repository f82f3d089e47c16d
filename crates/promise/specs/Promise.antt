-- What it is for a promise to decide its answer.
use Rattle.std.specs.Prelude.{◌≡◌}

-- A promise speaks of what comes in (arguments, and what lent memory holds at entry) and of what comes out (the answer, and what
-- lent memory holds at exit). It decides if any two outcomes that it allows for the same input are equal.
abbrev pub Decides : {In Out : Type 0} → (In → Out → Type 0) → Type 0
Decides {In} {Out} P = (i : In) (a b : Out) → P i a → P i b → a ≡ b
