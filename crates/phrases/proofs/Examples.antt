-- The order of 02's checks, computed on sheets that fail two of them and on the bounds: the number of the refusal, and the sheet.
use Prim.Native.Nat.{ℕ}
use mathlib.Core.Bool.{Bool}
use mathlib.Core.List.{List, [], ◌∷◌}
use lib.Dec.{T, eqb}
use Rattle.phrases.specs.Sheets.{phrases_from, fault, judged}
use Rattle.promise.proofs.Tests.{every}
use Rattle.refusals.specs.Refusals.{reason_number}

record Example : Type 0 where
  sheet : List ℕ
  refusal : ℕ

abbrev gives : ℕ → List ℕ → Example
gives n sheet = record { sheet = sheet; refusal = n }

abbrev examples : List Example
examples =
    gives 26 [] ∷
    gives 26 (0 ∷ []) ∷
    gives 26 (0 ∷ 0 ∷ 2 ∷ []) ∷
    gives 26 (0 ∷ 2 ∷ 2 ∷ []) ∷
    gives 26 (1 ∷ 0 ∷ 1 ∷ []) ∷
    gives 27 (0 ∷ 1 ∷ 2 ∷ []) ∷
    gives 27 (0 ∷ 2 ∷ 0 ∷ 9 ∷ []) ∷
    gives 0 (0 ∷ 1 ∷ 1 ∷ []) ∷
    gives 0 (0 ∷ 1 ∷ 1 ∷ 9 ∷ 9 ∷ 9 ∷ []) ∷
    gives 26 (0 ∷ 3 ∷ 1 ∷ 0 ∷ 7 ∷ []) ∷
    gives 26 (0 ∷ 3 ∷ 1 ∷ 0 ∷ 7 ∷ 0 ∷ []) ∷
    gives 28 (0 ∷ 4 ∷ 1 ∷ 0 ∷ 7 ∷ 1 ∷ 65 ∷ []) ∷
    gives 0 (0 ∷ 5 ∷ 1 ∷ 0 ∷ 7 ∷ 1 ∷ 65 ∷ []) ∷
    gives 0 (0 ∷ 7 ∷ 1 ∷ 0 ∷ 0 ∷ 0 ∷ 0 ∷ 1 ∷ 0 ∷ []) ∷
    gives 29 (0 ∷ 7 ∷ 1 ∷ 0 ∷ 1 ∷ 0 ∷ 0 ∷ 1 ∷ 0 ∷ []) ∷
    gives 28 (0 ∷ 7 ∷ 1 ∷ 0 ∷ 1 ∷ 0 ∷ 0 ∷ 1 ∷ 1 ∷ []) ∷
    gives 29 (0 ∷ 8 ∷ 1 ∷ 1 ∷ 0 ∷ 0 ∷ 0 ∷ 255 ∷ 0 ∷ 9 ∷ []) ∷
    []

abbrev holds : ℕ → Example → Bool
holds offset e = eqb (reason_number (judged e.sheet)) e.refusal

all_hold : T (every holds 0 examples)
unfolding phrases_from fault judged
all_hold = tt
