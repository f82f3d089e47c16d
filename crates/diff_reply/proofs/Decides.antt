-- Each promise of this crate decides the next offset and the buffer: it says what both are.
use Rattle.promise.proofs.Laws.{same}
use Rattle.promise.specs.Promise.{Decides}
use Rattle.diff_reply.specs.Promises.{DiffReply, NotTwo}

pub put_diff_reply_decides : Decides DiffReply
put_diff_reply_decides (before, at, first, second) a b p q = same p.is q.is

pub put_not_two_decides : Decides NotTwo
put_not_two_decides (before, at, count) a b p q = same p.is q.is
