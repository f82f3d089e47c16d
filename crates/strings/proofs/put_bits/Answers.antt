-- Nothing but for 1; of 1 three appenders, one after the other.
use native.Mathlib.Omega.{arith}
use Rattle.buffer.proofs.Appending.{and_then, none}
use Rattle.strings.proofs.Cases.{bits-named, bits-unnamed}
use Rattle.texts.specs.Pool.{bytes}
use Rattle.strings.proofs.put_bits.Goals as goal

pub returns-then-number-ne-RES0 : goal.returns-then-number-ne-RES0
returns-then-number-ne-RES0 c =
    let a = c.args in
    rw (bits-unnamed a.number a.start a.width c.if-number-ne-RES0.true) (none (omega arith))

pub returns : goal.returns
unfolding bytes
returns c =
    let a = c.args in
    rw (bits-named a.number a.start a.width (omega (arith, c.if-number-ne-RES0.false)))
    (and_then c.put_number-a.ensures (and_then c.put_bytes-b.ensures c.put_number.ensures))
