-- The value is decoded or refused, and then the index; then the line is measured; then it is written, or the buffer is
-- too short.
use borrow.Author.Rules.{rules}
use native.Mathlib.Omega.{arith}
use mathlib.Core.Path.{◌≡◌, refl, ap}
use lib.ListN.{length}
use Rattle.std.specs.Prelude.{Err}
use Rattle.display.proofs.Cases.{line-lent}
use Rattle.records.proofs.Laws.{long_as}
use Rattle.listing.proofs.Answers.{line_refused, line_no, line_yes}
use Rattle.listing.proofs.Longest.{line_small}
use Rattle.written.proofs.Kept.{exit, by-refusal, by_shortness, by_writing}
use Rattle.listing.proofs.record_line.Goals as goal

pub returns-in_err-check : goal.returns-in_err-check
returns-in_err-check c =
    by-refusal (line_refused _ c.decode-answer.ensures c.check.ensures c.in_err-check.was _)
    (exit c.from_residual.ensures)

pub returns-then-count-index : goal.returns-then-count-index
returns-then-count-index c =
    let long : length c.decode-answer.result.records.items ≡ 19 = search (rules, long_as) in
    by-refusal (line_no _ c.decode-answer.ensures c.check.ensures long c.in_ok-check.was _ c.if-count-index.true)
    (ap Err c.carrying.ensures)

pub returns-in_err-bytes : goal.returns-in_err-bytes
returns-in_err-bytes c =
    let long : length c.decode-answer.result.records.items ≡ 19 = search (rules, long_as) in
    let own = line-lent (record { whole = c.pool_bytes-pool.ensures; each = c.text_starts-starts.ensures })
    c.at-item.result in
    by_shortness
    (line_yes _ c.decode-answer.ensures c.check.ensures long c.in_ok-check.was _ c.if-count-index.false _
    c.at-item.ensures) (line_small c.at-item.result (omega arith)) (rw own at c.put_line.ensures) c.room_for.ensures
    c.in_err-bytes.was (exit c.from_residual-in_err-bytes.ensures)

pub returns : goal.returns
returns c =
    let long : length c.decode-answer.result.records.items ≡ 19 = search (rules, long_as) in
    let own = line-lent (record { whole = c.pool_bytes-pool.ensures; each = c.text_starts-starts.ensures })
    c.at-item.result in
    by_writing
    (line_yes _ c.decode-answer.ensures c.check.ensures long c.in_ok-check.was _ c.if-count-index.false _
    c.at-item.ensures) (line_small c.at-item.result (omega arith)) (rw own at c.put_line.ensures) c.room_for.ensures
    c.in_ok-bytes.was (rw own at c.put_line-2.ensures) refl
