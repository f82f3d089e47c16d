-- Each promise of this crate decides its answer: it says what the answer is.
use Rattle.std.specs.Prelude.{Some, None}
use Rattle.streams.specs.Promises.{Copied, Flushed, Got, Read}
use Rattle.promise.proofs.Laws.{same}
use Rattle.promise.specs.Promise.{Decides}

pub got_decides : Decides Got
got_decides (Some n) a b = same
got_decides None a b = same

pub count_read_decides : Decides Read
count_read_decides given a b p q = same p.is q.is

pub copied_decides : Decides Copied
copied_decides given a b p q = same p.is q.is

pub flush_decides : Decides Flushed
flush_decides (held, at) a b = same
