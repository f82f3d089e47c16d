-- By whether the value is refused.
use Rattle.refusals.proofs.Cases.{passed-is, refused-is}
use Rattle.records_reply.specs.Replies.{decoded}
use mathlib.Core.Path.{◌≡◌}
use Rattle.strict.specs.Strict.{answer_by}
use Rattle.records_reply.proofs.put_decoded.Goals as goal

pub returns-then-is_refused : goal.returns-then-is_refused
unfolding decoded
returns-then-is_refused c =
    let a = c.args in
    let d = c.decode_by-answer in
    let is : d.result ≡ answer_by a.profile a.esr = d.ensures in
    rw (← is, refused-is d.result.refusal c.is_refused.ensures c.if-is_refused.true) c.put_carried.ensures

pub returns : goal.returns
unfolding decoded
returns c =
    let a = c.args in
    let d = c.decode_by-answer in
    let is : d.result ≡ answer_by a.profile a.esr = d.ensures in
    rw (← is, passed-is d.result.refusal c.is_refused.ensures c.if-is_refused.false) c.put_record_lines.ensures
