-- Five and fourteen are nineteen; below that the rows are counted.
use mathlib.Core.Path.{sym, ap, ◌∙◌}
use Prim.Native.Nat.{ℕ, ◌+◌}
use native.Mathlib.Omega.{arith}
use lib.Dec.{leb}
use lib.ListN.{length}
use borrow.Author.Tests.{le-leb}
use Rattle.engine.specs.Engine.{rows_from}
use Rattle.engine.proofs.slots.fits.Goals as goal

pub returns-then-room-ge-MAX : goal.returns-then-room-ge-MAX
returns-then-room-ge-MAX c =
    let a = c.args in
    le-leb 19 a.room (omega arith)
    ∙ sym (le-leb (5 + length (rows_from a.answers a.first a.count)) a.room (omega (arith, c.requires.1)))

pub returns-else-room-ge-MAX : goal.returns-else-room-ge-MAX
returns-else-room-ge-MAX c =
    let a = c.args in
    ap (λ (n : ℕ). leb (5 + n) a.room) c.count_rows.ensures
