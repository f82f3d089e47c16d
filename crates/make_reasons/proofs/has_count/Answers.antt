-- Each outcome is asked whether its set has so many leaves.
use Prim.Native.Nat.{ℕ}
use mathlib.Core.Path.{refl, ◌∙◌}
use lib.Dec.{eqb}
use borrow.Author.Rules.{rules}
use Rattle.make_lines.proofs.Laws.{any_is}
use Rattle.make_reasons.specs.Reasons.{has_count, leaves_at}
use Rattle.std.proofs.lemmas.Iterator.{YieldsList-from_range}
use Rattle.std.proofs.lemmas.Iterator.Search.{any_from_yields_List}
use Rattle.make_reasons.proofs.has_count.Goals as goal

pub returns : goal.returns
unfolding has_count
returns c =
    let f = λ (j : ℕ). eqb (leaves_at c.args.number j) c.args.n in
    any_from_yields_List f _ _ _ c.any.ensures.ran (YieldsList-from_range 0 32 32 refl refl)
    (λ x b q k. search rules)
    ∙ any_is f 32
