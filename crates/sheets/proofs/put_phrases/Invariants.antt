-- The invariant: the phrases of the codes so far are what was put.
use mathlib.Core.Path.{◌≡◌}
use Prim.Native.Nat.{◌-◌}
use lib.ListN.{length}
use Rattle.buffer.specs.Appending.{Appends}
use Rattle.phrases.specs.Writing.{phrases_bytes}
use Rattle.sheets.specs.Standard.{phrases_at}
use Rattle.sheets.proofs.put_phrases.Given as goal

abbrev pub invariant-loop-code : goal.invariant-loop-code
invariant-loop-code l =
    Appends (phrases_bytes (phrases_at 128 (l.code - 128))) (l.at, l.initial.buf) (l.next, l.buf)
    × (length l.buf ≡ length l.initial.buf)
