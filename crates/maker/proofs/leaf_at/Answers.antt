-- The invariant: what is left of rows and leaves has the leaf that all of them have.
use Rattle.std.proofs.Common.{sym, ◌∙◌}
use Rattle.std.proofs.lemmas.Slice.Zip.{either_empty_from_Zip}
use Rattle.maker.proofs.Steps.{no_leaf}
use Rattle.maker.proofs.leaf_at.Goals as goal

pub returns : goal.returns
returns c =
    let spent = either_empty_from_Zip _ c.next.new.self _ c.in-None.is c.next.ensures.steps in
    sym (c.loop-row.invariant ∙ no_leaf _ _ _ _ spent)
