-- What each public function promises: of what comes in and what the buffer holds before, the next offset and what the buffer holds after.
use Rattle.std.specs.Prelude.{ℕ, List}
use Rattle.buffer.specs.Appending.{Appends}
use Rattle.diff_reply.specs.Replies.{diff_text, not_two}

abbrev pub DiffReply : List ℕ × ℕ × ℕ × ℕ → ℕ × List ℕ → Type 0
DiffReply (before, at, first, second) out = Appends (diff_text first second) (at, before) out

abbrev pub NotTwo : List ℕ × ℕ × ℕ → ℕ × List ℕ → Type 0
NotTwo (before, at, count) out = Appends (not_two count) (at, before) out
