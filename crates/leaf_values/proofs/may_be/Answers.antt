-- By the tests of the definition; a leaf lies in ISS, so that a value can be put into its bits.
use Prim.Native.Nat.{ℕ, ◌+◌, ◌≤◌, ◌<◌}
use mathlib.Core.Path.{sym, ap, ◌∙◌}
use native.Mathlib.Omega.{arith}
use borrow.Author.Tests.{le-ltb}
use Rattle.leaf_values.proofs.Laws.{leaf-within, may_past, may_unmet, may_by_rows, room_small}
use Rattle.leaf_values.specs.Leaves.{same_leaves}
use Rattle.records.specs.Rows.{meets}
use Rattle.leaf_values.proofs.may_be.Goals as goal

pub returns-else-x-room_of : goal.returns-else-x-room_of
returns-else-x-room_of c =
    let a = c.args in
    le-ltb _ _ c.if-x-room_of.false
    ∙ may_past a.number a.iss a.index a.x c.leaf_row-row.result c.leaf_row-row.ensures
    (omega (arith, c.if-x-room_of.false, c.room_of.ensures))

pub put_at-other-requires : goal.put_at-other-requires
put_at-other-requires c =
    let a = c.args in
    let w : c.leaf_row-row.result.start + c.leaf_row-row.result.width ≤ 25 =
    rw c.leaf_row-row.ensures (leaf-within a.number a.iss a.index) in
    let s : a.x < 64 = omega (arith, c.if-x-room_of.true, c.room_of.ensures, room_small c.leaf_row-row.result.width) in
    (w, s)

pub returns-else-meets : goal.returns-else-meets
returns-else-meets c =
    let a = c.args in
    c.if-meets.false
    ∙ may_unmet a.number a.iss a.index a.x c.leaf_row-row.result c.leaf_row-row.ensures
    (omega (arith, c.if-x-room_of.true, c.room_of.ensures))
    (ap (λ (v : ℕ). meets v c.leaf_row-row.result) (sym c.put_at-other.ensures) ∙ sym c.meets.ensures
    ∙ c.if-meets.false)

pub returns-then-meets : goal.returns-then-meets
returns-then-meets c =
    let a = c.args in
    c.same_leaves.ensures
    ∙ ap (λ (v : ℕ). same_leaves a.number v a.iss) c.put_at-other.ensures
    ∙ may_by_rows a.number a.iss a.index a.x c.leaf_row-row.result c.leaf_row-row.ensures
    (omega (arith, c.if-x-room_of.true, c.room_of.ensures))
    (ap (λ (v : ℕ). meets v c.leaf_row-row.result) (sym c.put_at-other.ensures) ∙ sym c.meets.ensures
    ∙ c.if-meets.true)
