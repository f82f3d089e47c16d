-- The value is decoded or refused; then its listing is measured; then it is written, or the buffer is too short.
use mathlib.Core.Path.{refl}
use Rattle.display.proofs.Cases.{listing-lent}
use Rattle.records.specs.Sets.{list_of}
use Rattle.listing.proofs.Answers.{listing_no, listing_yes}
use Rattle.listing.proofs.Longest.{small}
use Rattle.written.proofs.Kept.{exit, by-refusal, by_shortness, by_writing}
use Rattle.listing.proofs.listing.Goals as goal

pub returns-in_err-check : goal.returns-in_err-check
returns-in_err-check c =
    by-refusal (listing_no _ c.decode-answer.ensures c.check.ensures c.in_err-check.was) (exit c.from_residual.ensures)

pub returns-in_err-bytes : goal.returns-in_err-bytes
returns-in_err-bytes c =
    let d = c.decode-answer in
    let own = listing-lent (record { whole = c.pool_bytes-pool.ensures; each = c.text_starts-starts.ensures })
    (list_of d.result.records) in
    by_shortness (listing_yes _ d.ensures c.check.ensures c.in_ok-check.was) (small _ d.ensures)
    (rw own at c.put_listing.ensures) c.room_for.ensures c.in_err-bytes.was (exit c.from_residual-in_err-bytes.ensures)

pub returns : goal.returns
returns c =
    let d = c.decode-answer in
    let own = listing-lent (record { whole = c.pool_bytes-pool.ensures; each = c.text_starts-starts.ensures })
    (list_of d.result.records) in
    by_writing (listing_yes _ d.ensures c.check.ensures c.in_ok-check.was) (small _ d.ensures)
    (rw own at c.put_listing.ensures) c.room_for.ensures c.in_ok-bytes.was (rw own at c.put_listing-2.ensures) refl
