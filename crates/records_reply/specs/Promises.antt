-- What each public function promises: of what comes in and what the buffer holds before, the next offset and what the buffer holds after.
use Rattle.std.specs.Prelude.{ℕ, List}
use Rattle.buffer.specs.Appending.{Appends}
use Rattle.number.specs.declared.Number.{Number}
use Rattle.strict.specs.declared.Profile.{Profile}
use Rattle.records_reply.specs.Replies.{number_reply, records_reply}

abbrev pub NumberReply : List ℕ × ℕ × Number → ℕ × List ℕ → Type 0
NumberReply (before, at, number) out = Appends (number_reply number) (at, before) out

abbrev pub RecordsReply : List ℕ × ℕ × Profile × Number → ℕ × List ℕ → Type 0
RecordsReply (before, at, profile, number) out = Appends (records_reply profile number) (at, before) out
