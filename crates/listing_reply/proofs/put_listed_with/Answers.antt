-- By whether the value is refused, and then the sheets; names are the project's own.
use mathlib.Core.Bool.{true, false}
use mathlib.Core.Path.{◌≡◌}
use Rattle.display.proofs.Cases.{with_lent}
use Rattle.phrases.specs.Sheets.{both_sound, judged_both, text_in}
use Rattle.records.specs.Sets.{list_of}
use Rattle.refusals.proofs.Cases.{passed-is, refused-is, check-ok, check-err, check-same}
use Rattle.refusals.specs.Refusals.{bare}
use Rattle.listing_reply.specs.Replies.{listed_with}
use Rattle.listing_reply.proofs.put_listed_with.Goals as goal

pub returns-then-is_refused : goal.returns-then-is_refused
unfolding listed_with
returns-then-is_refused c =
    let d = c.decode_by-decoded in
    rw (← d.ensures, refused-is d.result.refusal c.is_refused.ensures c.if-is_refused.true) c.put_refusal.ensures

pub returns-in-Err : goal.returns-in-Err
unfolding listed_with
returns-in-Err c =
    let d = c.decode_by-decoded in
    let bad = bare (judged_both c.args.workshop.now c.args.standard.now) in
    let told = c.sheets_refusal.ensures in
    let no : both_sound c.args.workshop.now c.args.standard.now ≡ false = check-err bad told c.in-Err.is in
    rw (
      ← d.ensures,
      passed-is d.result.refusal c.is_refused.ensures c.if-is_refused.false,
      no,
      ← check-same bad told c.in-Err.is,
    ) c.put_refusal-in-Err.ensures

pub returns : goal.returns
unfolding listed_with
returns c =
    let d = c.decode_by-decoded in
    let a = c.args in
    let bad = bare (judged_both a.workshop.now a.standard.now) in
    let yes : both_sound a.workshop.now a.standard.now ≡ true = check-ok bad c.sheets_refusal.ensures c.in_default.is in
    let own =
    with_lent (record { whole = c.pool_bytes-pool.ensures; each = c.text_starts-starts.ensures })
    (text_in a.workshop.now a.standard.now) (list_of d.result.records) in
    rw (← d.ensures, passed-is d.result.refusal c.is_refused.ensures c.if-is_refused.false, yes, ← own)
    c.put_listing_with.ensures
