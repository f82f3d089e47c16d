-- Each promise of this crate decides the next offset and the buffer: it says what both are.
use Rattle.promise.proofs.Laws.{same}
use Rattle.promise.specs.Promise.{Decides}
use Rattle.strings.specs.Promises.{FieldPut, MessagePut, StringPut}

pub put_string_decides : Decides StringPut
put_string_decides (before, at, form, width, value) a b p q = same p.is q.is

pub put_field_decides : Decides FieldPut
put_field_decides (before, at, width, value) a b p q = same p.is q.is

pub put_message_decides : Decides MessagePut
put_message_decides (before, at, lent, starting, number, carried, start, width) a b p q = same p.is q.is
