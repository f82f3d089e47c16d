-- Nothing where an outcome before has the same leaves.
use mathlib.Core.Path.{sym, ◌∙◌}
use native.Mathlib.Omega.{arith}
use Rattle.buffer.proofs.Appending.{none}
use Rattle.make_lines.proofs.Laws.{set_seen, set_new}
use Rattle.make_lines.proofs.put_set_at.Goals as goal

pub returns-then-is_seen : goal.returns-then-is_seen
returns-then-is_seen c =
    rw (set_seen c.args.number c.args.k (sym c.is_seen.ensures ∙ c.if-is_seen.true)) (none (omega arith))

pub returns : goal.returns
returns c =
    rw (set_new c.args.number c.args.k (sym c.is_seen.ensures ∙ c.if-is_seen.false), ← c.outcome.ensures)
    c.put_set.ensures
