-- Each promise of this crate decides the next offset and the buffer: it says what both are.
use Rattle.promise.proofs.Laws.{same}
use Rattle.promise.specs.Promise.{Decides}
use Rattle.buffer.specs.Promises.{BytesPut, CodePut, OffsetAfter, TextPut}

pub offset_after_decides : Decides OffsetAfter
offset_after_decides (at, count) a b = same

pub put_bytes_decides : Decides BytesPut
put_bytes_decides (before, at, text) a b p q = same p.is q.is

pub put_text_decides : Decides TextPut
put_text_decides (before, at, lent, starting, code) a b p q = same p.is q.is

pub put_code_decides : Decides CodePut
put_code_decides (before, at, code) a b p q = same p.is q.is
