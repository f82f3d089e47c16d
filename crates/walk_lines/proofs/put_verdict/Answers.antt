-- By whether the value is refused.
use Rattle.refusals.proofs.Cases.{passed-is, refused-is}
use Rattle.texts.specs.Pool.{bytes}
use Rattle.walk_lines.specs.Lines.{verdict}
use Rattle.walk_lines.proofs.put_verdict.Goals as goal

pub returns-then-is_refused : goal.returns-then-is_refused
unfolding verdict bytes
returns-then-is_refused c =
    rw (refused-is c.args.refusal c.is_refused.ensures c.if-is_refused.true) c.put_refused.ensures

pub returns : goal.returns
unfolding verdict bytes
returns c = rw (passed-is c.args.refusal c.is_refused.ensures c.if-is_refused.false) c.put_bytes.ensures
