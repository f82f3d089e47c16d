-- Nothing where every value may stand there; else the runs of those that may.
use mathlib.Core.Path.{sym, ap, ◌∙◌}
use native.Mathlib.Omega.{arith}
use Rattle.buffer.proofs.Appending.{and_then, none}
use Rattle.leaf_values.proofs.Laws.{room_small}
use Rattle.leaf_values.specs.Values.{room_of}
use Rattle.make_lines.proofs.Laws.{values_any, values-some}
use Rattle.records.specs.declared.Row.{Row}
use Rattle.texts.specs.Pool.{bytes}
use Rattle.make_lines.proofs.Leaf.put_values.Goals as goal

pub returns-then-any_may : goal.returns-then-any_may
returns-then-any_may c =
    rw (values_any c.args.self.number c.args.self.iss c.args.self.index (sym c.any_may.ensures ∙ c.if-any_may.true))
    (none (omega arith))

pub put_runs-requires : goal.put_runs-requires
put_runs-requires c = omega (arith, c.room_of.ensures, room_small c.leaf_row-row.result.width)

pub returns : goal.returns
unfolding bytes
returns c =
    let room = c.room_of.ensures ∙ ap (λ (r : Row). room_of r.width) c.leaf_row-row.ensures in
    rw (values-some c.args.self.number c.args.self.iss c.args.self.index c.room_of.result room
    (sym c.any_may.ensures ∙ c.if-any_may.false))
    (and_then c.put_bytes-next.ensures c.put_runs.ensures)
