-- The index is that of the leaves at the bits of the four tests.
use Rattle.std.proofs.Common.{sym, ◌∙◌, ap₂}
use Rattle.layout_sets.specs.Outcomes.{index_at}
use Rattle.layout_sets.proofs.Outcomes.{index-told}
use Rattle.maker.proofs.index_told.Goals as goal

pub returns : goal.returns
returns c =
    let a = c.args in
    c.index_of.ensures
    ∙ ap₂ (λ f x. f x)
    (ap₂ (λ f x. f x) (ap₂ index_at c.leaf_at-bit_24.ensures c.leaf_at-bit_10.ensures) c.leaf_at-bit_7.ensures)
    c.leaf_at-status.ensures
    ∙ sym (index-told a.rows.now a.leaves.now)
