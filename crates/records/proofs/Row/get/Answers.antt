-- Each field of the record is the row's, or what the callees promise.
use Rattle.records.specs.Rows.{record_of}
use Rattle.records.proofs.Row.get.Goals as goal

pub returns : goal.returns
unfolding record_of
returns c = cc
