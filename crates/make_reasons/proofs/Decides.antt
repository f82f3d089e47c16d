-- Each promise of this crate decides the next offset and the buffer: it says what both are.
use Rattle.make_reasons.specs.Promises.{NoLayoutPut, WidePut}
use Rattle.promise.proofs.Laws.{same}
use Rattle.promise.specs.Promise.{Decides}

pub put_no_layout_decides : Decides NoLayoutPut
put_no_layout_decides (before, at, class, number, count) a b p q = same p.is q.is

pub put_too_wide_decides : Decides WidePut
put_too_wide_decides (before, at, il, iss2, number, iss, leaves) a b p q = same p.is q.is
