-- The invariant: the digits found so far stand after those still to be found, as far as the buffer goes, and `rest` is
-- what stands above them.
use mathlib.Core.Path.{◌≡◌}
use Prim.Native.Nat.{◌+◌, ◌-◌, ◌/◌, ◌^◌}
use lib.ListN.{length}
use lib.Seq.{sets}
use Rattle.digits.specs.Digits.{digits_of}
use Rattle.digits.proofs.put_decimal.Given as goal

abbrev pub invariant-loop-i : goal.invariant-loop-i
invariant-loop-i l =
    (l.rest ≡ l.value / 10 ^ (l.n - l.i))
    × (l.buf ≡ sets l.initial.buf (l.at + l.i) (digits_of 10 (l.n - l.i) l.value))
    × (length l.buf ≡ length l.initial.buf)
