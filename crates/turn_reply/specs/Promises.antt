-- What each public function promises: of what comes in and what the buffer holds before, the next offset and what the buffer holds after.
use Rattle.std.specs.Prelude.{ℕ, List}
use Rattle.buffer.specs.Appending.{Appends}
use Rattle.turn_reply.specs.Turns.{Said, not_both, turn_of}

abbrev pub TurnReply : List ℕ × ℕ × ℕ × List ℕ × ℕ → ℕ × List ℕ → Type 0
TurnReply (before, at, esr, word, number) out = Said (turn_of esr word number) (at, before) out

abbrev pub NotBoth : List ℕ × ℕ × ℕ → ℕ × List ℕ → Type 0
NotBoth (before, at, count) out = Appends (not_both count) (at, before) out
