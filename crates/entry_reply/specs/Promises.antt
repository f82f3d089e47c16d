-- What the public function promises: of what comes in and what the buffer holds before, the next offset and what the buffer holds after.
use Rattle.std.specs.Prelude.{ℕ, List}
use Rattle.buffer.specs.Appending.{Appends}
use Rattle.strict.specs.declared.Profile.{Profile}
use Rattle.entry_reply.specs.Replies.{entry_reply}

abbrev pub EntryReply : List ℕ × ℕ × Profile × List ℕ → ℕ × List ℕ → Type 0
EntryReply (before, at, profile, block) out = Appends (entry_reply profile block) (at, before) out
