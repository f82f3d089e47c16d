-- The order of 01's checks, computed on blocks that fail two of them and on the bounds: the number of the refusal, and the block.
use Prim.Native.Nat.{ℕ}
use mathlib.Core.Bool.{Bool}
use mathlib.Core.List.{List, [], ◌∷◌}
use lib.Dec.{T, eqb}
use lib.ListN.{replicate}
use Rattle.entry.specs.BigEndian.{bytes_after}
use Rattle.entry.specs.Entries.{judged}
use Rattle.promise.proofs.Tests.{every}
use Rattle.refusals.specs.Refusals.{reason_number}

record Example : Type 0 where
  block : List ℕ
  refusal : ℕ

abbrev gives : ℕ → List ℕ → Example
gives n block = record { block = block; refusal = n }

abbrev examples : List Example
examples =
    gives 14 [] ∷
    gives 14 (0 ∷ []) ∷
    gives 15 (0 ∷ 0 ∷ []) ∷
    gives 15 (0 ∷ 0 ∷ 2 ∷ []) ∷
    gives 14 (0 ∷ 1 ∷ []) ∷
    gives 16 (0 ∷ 1 ∷ 2 ∷ []) ∷
    gives 15 (0 ∷ 1 ∷ 1 ∷ []) ∷
    gives 14 (0 ∷ 11 ∷ 2 ∷ []) ∷
    gives 15 (0 ∷ 12 ∷ 1 ∷ replicate 11 0) ∷
    gives 16 (0 ∷ 12 ∷ 2 ∷ replicate 11 0) ∷
    gives 14 (11 ∷ 0 ∷ 1 ∷ replicate 10 0) ∷
    gives 14 (replicate 13 255) ∷
    gives 14 (0 ∷ 11 ∷ 1 ∷ replicate 9 0) ∷
    gives 0 (0 ∷ 11 ∷ 1 ∷ replicate 10 0) ∷
    gives 0 (0 ∷ 11 ∷ 1 ∷ replicate 20 0) ∷
    []

abbrev holds : ℕ → Example → Bool
holds offset e = eqb (reason_number (judged e.block)) e.refusal

all_hold : T (every holds 0 examples)
unfolding bytes_after judged
all_hold = tt
