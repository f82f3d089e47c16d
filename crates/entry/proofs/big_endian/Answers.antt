-- The number of what is left, after the number so far, is that of the whole; i bytes are below 256 ^ i, so that nothing
-- wraps.
use borrow.Author.Rules.{rules}
use lib.ListN.{length}
use mathlib.Core.Path.{◌≡◌, sym, ◌∙◌}
use native.Mathlib.Omega.{arith}
use Rattle.entry.proofs.Laws.{grows, room, bytes_after-more, bytes_after-done}
use Rattle.entry.proofs.big_endian.Goals as goal

pub overflow_mul-number : goal.overflow_mul-number
overflow_mul-number c =
    let l = c.loop-byte in
    omega (arith, room l.byte-index l.number 0 (search rules) l.invariant.0 (search rules))

pub loop-byte-preserved : goal.loop-byte-preserved
loop-byte-preserved c =
    let l = c.loop-byte in (
      grows l.byte-index l.number _ l.invariant.0 (c.type_inv.s l.byte-index).fits,
      l.invariant.1 ∙ bytes_after-more l.number _ l.byte-index (search rules),
    )

pub returns : goal.returns
returns c =
    let l = c.loop-byte in
    let e : l.byte-index ≡ length c.args.s.now = omega arith in
    (sym (l.invariant.1 ∙ bytes_after-done l.number _ l.byte-index e), rw e at l.invariant.0)
