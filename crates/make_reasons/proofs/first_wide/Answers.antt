-- The invariant says what is left: the first of all is the first from an index on.
use Prim.Native.Nat.{◌+◌, ◌≤◌}
use mathlib.Core.Path.{◌≡◌, sym, ◌∙◌}
use lib.ListN.{length}
use native.Mathlib.Omega.{arith}
use Rattle.leaf_values.proofs.Laws.{leaf-within}
use Rattle.make_reasons.proofs.Laws.{from_first, wide_done, wide_here, wide_later}
use Rattle.make_reasons.proofs.first_wide.Goals as goal

pub loop-i-init : goal.loop-i-init
loop-i-init c = from_first _ _ _

pub is_wide-requires : goal.is_wide-requires
is_wide-requires c =
    let w : c.leaf_row.result.start + c.leaf_row.result.width ≤ 25 = rw c.leaf_row.ensures
    (leaf-within c.args.number c.args.iss c.loop-i.i) in
    omega (arith, w)

pub returns-then-is_wide : goal.returns-then-is_wide
returns-then-is_wide c =
    sym
    (c.loop-i.invariant
    ∙ wide_here c.args.number c.args.iss c.args.leaves.now c.loop-i.i c.loop-i-test.true c.leaf_row.result
    c.leaf_row.ensures (sym c.is_wide.ensures ∙ c.if-is_wide.true))

pub loop-i-preserved : goal.loop-i-preserved
loop-i-preserved c =
    c.loop-i.invariant
    ∙ wide_later c.args.number c.args.iss c.args.leaves.now c.loop-i.i c.loop-i-test.true c.leaf_row.result
    c.leaf_row.ensures (sym c.is_wide.ensures ∙ c.if-is_wide.false)

pub returns : goal.returns
returns c =
    let l = c.args.leaves.now in
    let e : length l ≡ c.loop-i.i = omega (arith, c.loop-i-test.false) in
    e ∙ sym (c.loop-i.invariant ∙ wide_done c.args.number c.args.iss l c.loop-i.i c.loop-i-test.false)
