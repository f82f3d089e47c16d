-- The promise of this crate decides the next offset and the buffer: it says what both are.
use Rattle.promise.proofs.Laws.{same}
use Rattle.promise.specs.Promise.{Decides}
use Rattle.walk_reply.specs.Promises.{WalkReply}

pub put_walk_reply_decides : Decides WalkReply
put_walk_reply_decides (before, at, profile, block) a b p q = same p.is q.is
