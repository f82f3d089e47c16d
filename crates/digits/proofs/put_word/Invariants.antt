-- The invariant: the digits that are left, put from the next place on, make of the buffer what all of them make of it
-- at first; the next one stands on top.
use mathlib.Core.Path.{◌≡◌}
use Prim.Native.Nat.{◌+◌, ◌-◌, ◌*◌, ◌%◌, ◌^◌}
use lib.ListN.{length}
use lib.Seq.{sets}
use Rattle.digits.specs.Digits.{digits_of}
use Rattle.digits.proofs.put_word.Given as goal

abbrev pub invariant-loop-i : goal.invariant-loop-i
invariant-loop-i l =
    (l.top ≡ l.value * 2 ^ (64 - l.size * (l.n - l.i)) % 2 ^ 64)
    × (sets l.buf (l.at + l.i) (digits_of (2 ^ l.size) (l.n - l.i) l.value)
    ≡ sets l.initial.buf l.at (digits_of (2 ^ l.size) l.n l.value))
    × (length l.buf ≡ length l.initial.buf)
