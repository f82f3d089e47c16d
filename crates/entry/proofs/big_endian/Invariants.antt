-- The number of what is left, after the number so far, is that of the whole; i bytes are below 256 ^ i, so that nothing
-- wraps.
use Prim.Native.Nat.{◌^◌, ◌<◌}
use lib.ListN.{drop}
use mathlib.Core.Path.{◌≡◌}
use Rattle.entry.specs.BigEndian.{bytes_after}
use Rattle.entry.proofs.big_endian.Given as goal

abbrev pub invariant-loop-byte : goal.invariant-loop-byte
invariant-loop-byte l =
    (l.number < 256 ^ l.byte-index) × (bytes_after 0 l.s ≡ bytes_after l.number (drop l.byte-index l.s))
