-- As many leaves, each the same as the other's.
use Prim.Native.Nat.{ℕ}
use mathlib.Core.Path.{◌≡◌, refl, sym, ◌∙◌}
use native.Mathlib.Omega.{arith}
use lib.ListN.{length}
use borrow.Author.Rules.{rules}
use borrow.Author.Tests.{ne_eqb}
use Rattle.leaf_values.proofs.Laws.{other_lengths, rows_are}
use Rattle.leaf_values.specs.Leaves.{leaves_of, same_row}
use Rattle.leaf_values.specs.Values.{leaf_row}
use Rattle.std.proofs.lemmas.Iterator.{YieldsList-from_range}
use Rattle.std.proofs.lemmas.Iterator.Search.{all_from_yields_List}
use Rattle.leaf_values.proofs.same_sets.Goals as goal

pub returns-else-leaf_count-count : goal.returns-else-leaf_count-count
returns-else-leaf_count-count c =
    let a = c.args in
    ne_eqb _ _ c.if-leaf_count-count.false
    ∙ sym (other_lengths (leaves_of a.number a.iss) (leaves_of a.second a.other)
    (λ e. c.if-leaf_count-count.false (c.leaf_count.ensures ∙ e ∙ sym c.leaf_count-count.ensures)))

pub returns-then-leaf_count-count : goal.returns-then-leaf_count-count
unfolding leaf_row
returns-then-leaf_count-count c =
    let a = c.args in
    let xs = leaves_of a.number a.iss in
    let ys = leaves_of a.second a.other in
    let n = c.leaf_count-count.result in
    let many : length xs ≡ length ys =
    sym c.leaf_count-count.ensures ∙ sym c.if-leaf_count-count.true ∙ c.leaf_count.ensures in
    all_from_yields_List (λ (i : ℕ). same_row (leaf_row a.number a.iss i) (leaf_row a.second a.other i)) _ _ _
    c.all.ensures.ran (YieldsList-from_range 0 n (length xs) refl (omega (arith, c.leaf_count-count.ensures)))
    (λ x b q k. search rules)
    ∙ rows_are xs ys many
