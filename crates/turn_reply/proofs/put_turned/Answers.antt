-- The numbers lie at the front of the array; the maker is asked for what they say.
use native.Mathlib.Omega.{arith}
use Rattle.turn_reply.specs.Turns.{turned}
use Rattle.turn_reply.proofs.Laws.{said-made, turned-few, turned_three}
use Rattle.turn_reply.proofs.put_turned.Goals as goal

pub slice_bounds-put_make_reply-count : goal.slice_bounds-put_make_reply-count
slice_bounds-put_make_reply-count c =
    let a = c.args in omega (arith, c.hold-count.ensures.0, turned_three a.esr a.index a.number)

pub slice_bounds-put_make_reply-start : goal.slice_bounds-put_make_reply-start
slice_bounds-put_make_reply-start c =
    let a = c.args in omega (arith, c.hold-count.ensures.0, turned_three a.esr a.index a.number)

pub slice_bounds-put_make_reply-end : goal.slice_bounds-put_make_reply-end
slice_bounds-put_make_reply-end c =
    let a = c.args in omega (arith, c.hold-count.ensures.0, turned-few a.esr a.index a.number)

pub returns : goal.returns
returns c =
    let a = c.args in
    let h = c.hold-count.ensures in
    said-made _ (turned a.esr a.index a.number) _ _ h.1 h.0
    (omega (arith, turned-few a.esr a.index a.number))
    (turned_three a.esr a.index a.number) c.put_make_reply.ensures
