-- Each number of the room is asked.
use mathlib.Core.Path.{refl, ap, ◌∙◌}
use native.Mathlib.Omega.{arith}
use borrow.Author.Rules.{rules}
use Rattle.leaf_values.proofs.Laws.{all_is}
use Rattle.leaf_values.specs.Values.{all_below, any_may, may_be, room_of}
use Rattle.records.specs.declared.Row.{Row}
use Rattle.std.proofs.lemmas.Iterator.{YieldsList-from_range}
use Rattle.std.proofs.lemmas.Iterator.Search.{all_from_yields_List}
use Rattle.leaf_values.proofs.any_may.Goals as goal

pub returns : goal.returns
unfolding any_may
returns c =
    let a = c.args in
    let f = may_be a.number a.iss a.index in
    let n = c.room_of.result in
    all_from_yields_List f _ _ _ c.all.ensures.ran (YieldsList-from_range 0 n n refl (omega arith))
    (λ x b q k. search rules)
    ∙ all_is f n
    ∙ ap (all_below f) (c.room_of.ensures ∙ ap (λ (r : Row). room_of r.width) c.leaf_row-row.ensures)
