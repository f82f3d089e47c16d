-- Each promise of this crate decides the next offset and the buffer: it says what both are.
use Rattle.promise.proofs.Laws.{same}
use Rattle.promise.specs.Promise.{Decides}
use Rattle.digits.specs.Promises.{DigitsPut, NumberPut}

pub put_digits_decides : Decides DigitsPut
put_digits_decides (before, at, base, count, value) a b p q = same p.is q.is

pub put_number_decides : Decides NumberPut
put_number_decides (before, at, base, value) a b p q = same p.is q.is
