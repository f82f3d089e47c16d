-- Each promise of this crate decides its answer: it says what the answer is.
use Rattle.promise.proofs.Laws.{same}
use Rattle.promise.specs.Promise.{Decides}
use Rattle.turn_fields.specs.Promises.{FieldCount, FieldRow, Find}

pub field_count_decides : Decides FieldCount
field_count_decides esr a b = same

pub field_row_decides : Decides FieldRow
field_row_decides (esr, index) a b = same

pub find_decides : Decides Find
find_decides (esr, word) a b = same
