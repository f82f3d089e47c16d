-- Each promise of this crate decides its answer: it says what the answer is.
use Rattle.promise.specs.Promise.{Decides}
use Rattle.promise.proofs.Laws.{same}
use Rattle.records.specs.Promises.{AsBit, At, Emptied, Field, Got, Marked, Meets, Number, Refused}

pub field_decides : Decides Field
field_decides (v, start, width) a b = same

pub as_bit_decides : Decides AsBit
as_bit_decides (v, position) a b = same

pub Mark-number_decides : Decides Number
Mark-number_decides mark a b = same

pub Mark-of_kind_decides : Decides Marked
Mark-of_kind_decides kind a b = same

pub Row-get_decides : Decides Got
Row-get_decides (row, v) a b = same

pub Row-meets_decides : Decides Meets
Row-meets_decides (row, v) a b = same

pub Row-refusal_decides : Decides Refused
Row-refusal_decides (row, v) a b = same

pub Records-empty_decides : Decides Emptied
Records-empty_decides i a b = same

pub Records-at_decides : Decides At
Records-at_decides (set, index) a b = same
