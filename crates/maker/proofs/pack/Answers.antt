-- The invariant: the sum so far and what is left to pack are, modulo 2^64, all that is packed.
use Rattle.std.proofs.Common.{sym, ◌∙◌, mod-lt, pow_pos}
use Rattle.std.proofs.lemmas.Slice.Zip.{Zip-more, either_empty_from_Zip}
use Rattle.maker.proofs.Steps.{low_rest, pack_step, pack_end}
use Rattle.maker.proofs.pack.Goals as goal

pub loop-row-preserved : goal.loop-row-preserved
loop-row-preserved c =
    let next = Zip-more _ c.next.new.self _ _ c.in-Some.is c.next.ensures.steps in
    let l = c.loop-row.invariant in (
      l.0 ∙ pack_step next.0 next.1 c.loop-row.sum,
      mod-lt _ (pow_pos 64),
      low_rest next.0 l.2,
    )

pub returns : goal.returns
returns c =
    let spent = either_empty_from_Zip _ c.next.new.self _ c.in-None.is c.next.ensures.steps in
    let l = c.loop-row.invariant in
    sym (l.0 ∙ pack_end _ _ c.loop-row.sum l.1 spent)
