-- By the tests of the definition.
use Rattle.buffer.proofs.Appending.{and_then}
use Rattle.make_reasons.proofs.Laws.{wide_il, wide_iss2, wide_leaves}
use Rattle.texts.specs.Pool.{bytes}
use Rattle.make_reasons.proofs.put_too_wide.Goals as goal

pub returns-then-il-gt1 : goal.returns-then-il-gt1
unfolding bytes
returns-then-il-gt1 c =
    rw (wide_il c.args.il c.args.iss2 c.args.number c.args.iss c.args.leaves.now c.if-il-gt1.true)
    (and_then c.put_bytes-next.ensures c.put_wider.ensures)

pub returns-then-iss2-gt31 : goal.returns-then-iss2-gt31
unfolding bytes
returns-then-iss2-gt31 c =
    rw
    (wide_iss2 c.args.il c.args.iss2 c.args.number c.args.iss c.args.leaves.now c.if-il-gt1.false c.if-iss2-gt31.true)
    (and_then c.put_bytes-next-then-iss2-gt31.ensures c.put_wider-then-iss2-gt31.ensures)

pub returns : goal.returns
returns c =
    rw (
      wide_leaves c.args.il c.args.iss2 c.args.number c.args.iss c.args.leaves.now c.if-il-gt1.false
          c.if-iss2-gt31.false,
      ← c.first_wide-index.ensures,
    ) c.put_wide_at.ensures
