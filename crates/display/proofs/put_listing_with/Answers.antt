-- Without the pool's texts those of the sheets are left.
use Rattle.display.proofs.Sources.{sheets_listing}
use Rattle.records.specs.Sets.{list_of}
use Rattle.display.proofs.put_listing_with.Goals as goal

pub returns : goal.returns
returns c =
    let a = c.args in
    rw (← sheets_listing a.pool.now a.starts.now a.workshop.now a.standard.now (list_of a.records)) c.put_records.ensures
