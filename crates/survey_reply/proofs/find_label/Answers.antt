-- The invariant says what is left: the answer is among the places from this one on. Of each the label and the space are
-- put, which fit the buffer.
use Prim.Native.Nat.{◌≤◌}
use mathlib.Core.Bool.{false, true}
use mathlib.Core.List.{List}
use mathlib.Core.Path.{◌≡◌, sym, ap, ◌∙◌}
use Prim.Native.Nat.{ℕ}
use native.Mathlib.Omega.{arith}
use lib.ListN.{length}
use lib.Seq.{length-take-le}
use Rattle.buffer.proofs.Appending.{same_length}
use Rattle.number.specs.Numbers.{starts_with}
use Rattle.survey_reply.proofs.Laws.{begins, begun-long, front-next, front_put, front-within}
use Rattle.survey_reply.proofs.Laws.{place_here, place-later, place_none}
use Rattle.survey_reply.specs.Replies.{front}
use Rattle.survey_reply.proofs.find_label.Goals as goal

pub slice_bounds-text-end : goal.slice_bounds-text-end
slice_bounds-text-end c =
    let l = c.loop-place in
    omega (
      arith,
      front-within l.place c.loop-place-test.true l.invariant.0 c.put_front-next.ensures,
      same_length c.put_front-next.ensures,
      l.invariant.0,
    )

pub slice_bounds-starts_with-end : goal.slice_bounds-starts_with-end
slice_bounds-starts_with-end c =
    let l = c.loop-place in
    let within : c.put_front-next.result ≤ length c.put_front-next.new.buf = omega (
      arith,
      front-within l.place c.loop-place-test.true l.invariant.0 c.put_front-next.ensures,
      same_length c.put_front-next.ensures,
      l.invariant.0,
    ) in
    sym (length-take-le c.put_front-next.result c.put_front-next.new.buf within)

pub returns-then-starts_with : goal.returns-then-starts_with
returns-then-starts_with c =
    let line = c.args.line.now in
    let l = c.loop-place in
    let h = c.loop-place-test.true in
    let next = front-next l.place h l.invariant.0 c.put_front-next.ensures in
    let is : starts_with (front l.place) line ≡ true =
    ap (λ (t : List ℕ). starts_with t line) (sym (front_put l.place h l.invariant.0 c.put_front-next.ensures))
    ∙ sym (begins line _)
    ∙ sym c.starts_with.ensures.value
    ∙ c.if-starts_with.true in
    (sym (l.invariant.1 ∙ place_here line l.place h is), h, next, omega (arith, next, begun-long (front l.place) line is))

pub loop-place-preserved : goal.loop-place-preserved
loop-place-preserved c =
    let line = c.args.line.now in
    let l = c.loop-place in
    let h = c.loop-place-test.true in
    let is : starts_with (front l.place) line ≡ false =
    ap (λ (t : List ℕ). starts_with t line) (sym (front_put l.place h l.invariant.0 c.put_front-next.ensures))
    ∙ sym (begins line _)
    ∙ sym c.starts_with.ensures.value
    ∙ c.if-starts_with.false in (
      same_length c.put_front-next.ensures ∙ l.invariant.0,
      l.invariant.1 ∙ place-later line l.place h is,
    )

pub returns : goal.returns
returns c =
    let l = c.loop-place in
    omega (arith, l.invariant.1, place_none c.args.line.now l.place (omega arith))
