-- The promise of this crate decides the next offset and the buffer: it says what both are.
use Rattle.promise.proofs.Laws.{same}
use Rattle.promise.specs.Promise.{Decides}
use Rattle.entry_reply.specs.Promises.{EntryReply}

pub put_entry_reply_decides : Decides EntryReply
put_entry_reply_decides (before, at, profile, block) a b p q = same p.is q.is
