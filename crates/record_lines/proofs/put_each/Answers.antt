-- The invariant: the bytes so far are what is put.
use Prim.Native.Nat.{◌<◌}
use Rattle.buffer.proofs.Appending.{and_then}
use Rattle.buffer.proofs.Appending.{none}
use Rattle.buffer.proofs.InOrder.{one_more, no_items}
use Rattle.record_lines.specs.Lines.{byte_text}
use Rattle.texts.specs.Pool.{bytes}
use lib.ListN.{length}
use lib.Seq.{take_all}
use mathlib.Core.Path.{refl}
use native.Mathlib.Omega.{arith}
use Rattle.record_lines.proofs.put_each.Goals as goal

pub loop-b-init : goal.loop-b-init
loop-b-init c = (rw (no_items byte_text) (none (omega arith)), refl)

pub loop-b-preserved : goal.loop-b-preserved
unfolding byte_text bytes
loop-b-preserved c =
    let body = c.args.body.now in
    let within : c.loop-b.b-index < length body = omega arith in (
      rw (one_more byte_text body c.loop-b.b-index 0 within) (and_then c.loop-b.invariant.0
          (and_then c.put_bytes-next.ensures c.put_digits-next.ensures)),
      omega arith,
    )

pub returns : goal.returns
returns c =
    let body = c.args.body.now in
    let all = take_all c.loop-b.b-index body (omega arith) in
    rw all at c.loop-b.invariant.0
