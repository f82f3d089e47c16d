-- Nineteen empty records and the count 0 are the set of no records.
use mathlib.Core.Path.{ap}
use lib.ListN.{replicate}
use Rattle.records.specs.Sets.{set_room, records_of}
use Rattle.records.specs.declared.Record.{Record}
use Rattle.records.proofs.Records.empty.Goals as goal

pub returns : goal.returns
unfolding records_of
returns c = ap (λ (x : Record). record { items = replicate set_room x; count = 0 }) c.no_record-none.ensures
