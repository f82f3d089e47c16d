-- The invariant: the lines of the codes so far are what was put.
use native.Mathlib.Omega.{arith}
use mathlib.Core.Path.{◌≡◌, refl, ◌∙◌}
use Rattle.buffer.proofs.Appending.{none, and_then, same_length}
use Rattle.sheets.proofs.Laws.{codes}
use Rattle.sheet_reply.specs.Replies.{standard_lines}
use Rattle.sheet_reply.proofs.Laws.{one_more, none_yet}
use Rattle.sheet_reply.proofs.put_lines.Goals as goal

pub loop-code-init : goal.loop-code-init
loop-code-init c = (rw (none_yet 128) (none (omega arith)), refl)

pub loop-code-preserved : goal.loop-code-preserved
loop-code-preserved c =
    let l = c.loop-code in
    let w = and_then l.invariant.0 c.put_code_line-next.ensures in
    (rw (one_more l.code 128 (omega arith)) w, same_length w ∙ refl)

pub returns : goal.returns
unfolding standard_lines
returns c =
    let l = c.loop-code in
    let e : l.code ≡ 597 = omega arith in
    rw codes (rw e at l.invariant.0)
