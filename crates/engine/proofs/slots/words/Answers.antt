-- The sums are within 64 bits, field by field, and add up to the same word in either order.
use Prim.Native.Nat.{ℕ}
use mathlib.Core.List.{[], ◌∷◌}
use mathlib.Core.Path.{ap}
use native.Mathlib.Omega.{arith}
use Rattle.records.specs.declared.Record.{Record}
use Rattle.engine.specs.Words.{words_of}
use Rattle.engine.proofs.slots.words.Goals as goal

pub returns : goal.returns
unfolding words_of
returns c =
    let item : Record = c.args.item in
    ap (λ (n : ℕ). item.value ∷ (n ∷ [])) (omega arith)
