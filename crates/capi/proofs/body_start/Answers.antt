-- By whether anything is refused.
use Rattle.refusals.proofs.Cases.{passed-is, refused-is}
use Rattle.capi.proofs.body_start.Goals as goal

pub returns-then-is_refused : goal.returns-then-is_refused
returns-then-is_refused c = rw (refused-is c.args.refusal c.is_refused.ensures c.if-is_refused.true)

pub returns : goal.returns
returns c = rw (passed-is c.args.refusal c.is_refused.ensures c.if-is_refused.false)
