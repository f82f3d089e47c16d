-- Without sheets every text is the pool's.
use Rattle.display.proofs.Sources.{own-listing}
use Rattle.records.specs.Sets.{list_of}
use Rattle.display.proofs.put_listing.Goals as goal

pub returns : goal.returns
returns c = rw (← own-listing c.args.pool.now c.args.starts.now (list_of c.args.records)) c.put_records.ensures
