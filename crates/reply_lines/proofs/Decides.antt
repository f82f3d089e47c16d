-- Each promise of this crate decides the next offset and the buffer: it says what both are.
use Rattle.promise.proofs.Laws.{same}
use Rattle.promise.specs.Promise.{Decides}
use Rattle.reply_lines.specs.Promises.{CarriedLine, NumberLine, RefusalLine, RefusedPart, WhyPart}

pub put_number_line_decides : Decides NumberLine
put_number_line_decides (before, at, front, base, value) a b p q = same p.is q.is

pub put_refused_decides : Decides RefusedPart
put_refused_decides (before, at, refusal) a b p q = same p.is q.is

pub put_why_decides : Decides WhyPart
put_why_decides (before, at, refusal) a b p q = same p.is q.is

pub put_refusal_decides : Decides RefusalLine
put_refusal_decides (before, at, refusal) a b p q = same p.is q.is

pub put_carried_decides : Decides CarriedLine
put_carried_decides (before, at, refusal) a b p q = same p.is q.is
