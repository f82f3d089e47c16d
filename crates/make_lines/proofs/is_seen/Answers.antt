-- Each outcome before is asked.
use Prim.Native.Nat.{ℕ}
use mathlib.Core.Path.{refl, ◌∙◌}
use native.Mathlib.Omega.{arith}
use borrow.Author.Rules.{rules}
use Rattle.layout_sets.specs.Outcomes.{outcome_of}
use Rattle.leaf_values.specs.Leaves.{same_leaves}
use Rattle.make_lines.proofs.Laws.{any_is}
use Rattle.make_lines.specs.Help.{is_seen}
use Rattle.std.proofs.lemmas.Iterator.{YieldsList-from_range}
use Rattle.std.proofs.lemmas.Iterator.Search.{any_from_yields_List}
use Rattle.make_lines.proofs.is_seen.Goals as goal

pub returns : goal.returns
unfolding is_seen
returns c =
    let n = c.args.k in
    let f = λ (j : ℕ). same_leaves c.args.number (outcome_of j) (outcome_of n) in
    any_from_yields_List f _ _ _ c.any.ensures.ran (YieldsList-from_range 0 n n refl (omega arith))
    (λ x b q k. search rules)
    ∙ any_is f n
