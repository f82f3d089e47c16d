-- The text is that part of the lent pool which its two starts mark; where there is none in the pool, nothing is
-- written.
use native.Mathlib.Omega.{arith}
use Rattle.buffer.proofs.Lent.{in_lent, part_none, part_out, part-is}
use Rattle.buffer.proofs.Appending.{none}
use Rattle.buffer.proofs.put_text.Goals as goal

pub returns-then-n-eq0 : goal.returns-then-n-eq0
returns-then-n-eq0 c =
    let a = c.args in
    rw (part_none a.pool.now a.starts.now a.code c.length_in-n.result c.length_in-n.ensures c.if-n-eq0.true)
    (none (omega arith))

pub bounds-starts-code : goal.bounds-starts-code
bounds-starts-code c =
    let a = c.args in
    in_lent a.starts.now a.code c.length_in-n.result (omega arith) c.length_in-n.ensures

pub overflow_cast-from-2 : goal.overflow_cast-from-2
overflow_cast-from-2 c = omega (arith, c.type_inv.starts c.args.code)

pub overflow_add-from : goal.overflow_add-from
overflow_add-from c = omega (arith, c.type_inv.starts c.args.code)

pub returns-then-pool-from : goal.returns-then-pool-from
returns-then-pool-from c =
    let a = c.args in
    rw (part_out a.pool.now a.starts.now a.code c.length_in-n.result c.length_in-n.ensures (omega arith))
    (none (omega arith))

pub returns : goal.returns
returns c =
    let a = c.args in
    let p = part-is a.pool.now a.starts.now a.code c.length_in-n.result c.length_in-n.ensures c.if-pool-from.false in
    rw (← p) c.put_bytes.ensures
