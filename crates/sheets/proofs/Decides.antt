-- Each promise of this crate decides its answer and the buffer: it says what both are.
use Rattle.promise.proofs.Laws.{same}
use Rattle.promise.specs.Promise.{Decides}
use Rattle.sheets.specs.Promises.{IsRecords, StandardSheet}
use Rattle.written.proofs.Decides.{only}

pub standard_sheet_decides : Decides StandardSheet
standard_sheet_decides before = only _ before

pub is_records_decides : Decides IsRecords
is_records_decides code a b = same
