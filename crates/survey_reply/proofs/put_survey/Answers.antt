-- The invariant: what is said of the places so far is what was put.
use mathlib.Core.Path.{◌≡◌, refl}
use native.Mathlib.Omega.{arith}
use Rattle.buffer.proofs.Appending.{and_then, none, same_length}
use Rattle.survey_reply.proofs.Laws.{no_place_yet, one_place-more}
use Rattle.survey_reply.proofs.put_survey.Goals as goal

pub loop-place-init : goal.loop-place-init
loop-place-init c = (rw (no_place_yet _ _) (none (omega arith)), refl)

pub loop-place-preserved : goal.loop-place-preserved
loop-place-preserved c =
    let a = c.args in
    let w = and_then c.loop-place.invariant.0 (rw c.total_at.ensures at c.put_place-next.ensures) in
    (rw (one_place-more a.all a.totals.now c.loop-place.place) w, same_length w)

pub returns : goal.returns
returns c =
    let l = c.loop-place in
    let e : l.place ≡ 74 = omega arith in
    rw e at l.invariant.0
