-- By whether the value is refused; of the project's own pool the listing is the definition's.
use Rattle.display.proofs.Cases.{listing-lent}
use Rattle.records.specs.Sets.{list_of}
use Rattle.refusals.proofs.Cases.{passed-is, refused-is}
use Rattle.listing_reply.specs.Replies.{listed}
use mathlib.Core.Path.{◌≡◌}
use Rattle.strict.specs.Strict.{answer_by}
use Rattle.listing_reply.proofs.put_listed.Goals as goal

pub returns-then-is_refused : goal.returns-then-is_refused
unfolding listed
returns-then-is_refused c =
    let a = c.args in
    let d = c.decode_by-answer in
    let is : d.result ≡ answer_by a.profile a.esr = d.ensures in
    rw (← is, refused-is d.result.refusal c.is_refused.ensures c.if-is_refused.true) c.put_refusal.ensures

pub returns : goal.returns
unfolding listed
returns c =
    let a = c.args in
    let d = c.decode_by-answer in
    let is : d.result ≡ answer_by a.profile a.esr = d.ensures in
    let own =
    listing-lent (record { whole = c.pool_bytes-pool.ensures; each = c.text_starts-starts.ensures })
    (list_of d.result.records) in
    rw (← is, passed-is d.result.refusal c.is_refused.ensures c.if-is_refused.false, ← own) c.put_listing.ensures
