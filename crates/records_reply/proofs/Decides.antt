-- Each promise of this crate decides the next offset and the buffer: it says what both are.
use Rattle.promise.proofs.Laws.{same}
use Rattle.promise.specs.Promise.{Decides}
use Rattle.records_reply.specs.Promises.{NumberReply, RecordsReply}

pub put_number_reply_decides : Decides NumberReply
put_number_reply_decides (before, at, number) a b p q = same p.is q.is

pub put_records_reply_decides : Decides RecordsReply
put_records_reply_decides (before, at, profile, number) a b p q = same p.is q.is
