-- What the public function promises: of what comes in and what the buffer holds before, the next offset and what the buffer holds after.
use Rattle.std.specs.Prelude.{ℕ, List}
use Rattle.buffer.specs.Appending.{Appends}
use Rattle.strict.specs.declared.Profile.{Profile}
use Rattle.walk_reply.specs.Replies.{walk_reply}

abbrev pub WalkReply : List ℕ × ℕ × Profile × List ℕ → ℕ × List ℕ → Type 0
WalkReply (before, at, profile, block) out = Appends (walk_reply profile block) (at, before) out
