-- The invariant: the bytes so far stand in the buffer, one run of stores. It ends where the bytes do, or the buffer.
use mathlib.Core.Path.{◌≡◌}
use lib.ListN.{length, take}
use lib.Seq.{sets}
use Rattle.buffer.proofs.put_bytes.Given as goal

abbrev pub invariant-loop-j : goal.invariant-loop-j
invariant-loop-j l = (l.buf ≡ sets l.initial.buf l.at (take l.j l.src)) × (length l.buf ≡ length l.initial.buf)
