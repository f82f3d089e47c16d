-- The invariant: the phrases of the codes so far are what was put.
use native.Mathlib.Omega.{arith}
use mathlib.Core.Path.{◌≡◌, refl, ◌∙◌}
use Rattle.buffer.proofs.Appending.{none, and_then, same_length}
use Rattle.sheets.specs.Standard.{standard_phrases}
use Rattle.sheets.proofs.Laws.{one_more, none_yet, codes}
use Rattle.sheets.proofs.put_phrases.Goals as goal

pub loop-code-init : goal.loop-code-init
loop-code-init c = (rw (none_yet 128) (none (omega arith)), refl)

pub loop-code-preserved : goal.loop-code-preserved
loop-code-preserved c =
    let l = c.loop-code in
    let w = and_then l.invariant.0 c.put_phrase-next.ensures in
    (rw (one_more l.code 128 (omega arith)) w, same_length w ∙ refl)

pub returns : goal.returns
unfolding standard_phrases
returns c =
    let l = c.loop-code in
    let e : l.code ≡ 597 = omega arith in
    rw codes (rw e at l.invariant.0)
