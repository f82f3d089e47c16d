-- The outcome that is found is the one that the leaves tell; where none is, they tell none.
use Rattle.std.proofs.Common.{◌≡◌, true, rules}
use Rattle.std.proofs.lemmas.Iterator.{first_from_Range}
use Rattle.maker.specs.Laid.{tells_at}
use Rattle.maker.proofs.Choosing.{found_fits}
use Rattle.maker.proofs.index_fitting.Goals as goal

pub returns : goal.returns
returns c =
    let a = c.args in
    found_fits a.number a.leaves.now _
    (first_from_Range _ _ _ _ (λ i. tells_at a.number i a.leaves.now ≡ true)
    (λ i. tells_at a.number i a.leaves.now ≡ true → ⊥) c.find.ensures.ran
    (λ x q k. search rules) (λ x q k. (search rules, search rules)))
