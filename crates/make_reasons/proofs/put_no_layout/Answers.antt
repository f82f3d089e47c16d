-- By whether a set has so many leaves.
use mathlib.Core.Path.{sym, ◌∙◌}
use Rattle.buffer.proofs.Appending.{and_then}
use Rattle.make_reasons.proofs.Laws.{no_values, no_count}
use Rattle.texts.specs.Pool.{bytes}
use Rattle.make_reasons.proofs.put_no_layout.Goals as goal

pub returns-then-has_count : goal.returns-then-has_count
unfolding bytes
returns-then-has_count c =
    rw (no_values c.args.class c.args.number c.args.count (sym c.has_count.ensures ∙ c.if-has_count.true))
    (and_then
    (and_then
    (and_then c.put_bytes-next.ensures c.put_leaf_count-next.ensures) c.put_class-next.ensures) c.put_bytes.ensures)

pub returns : goal.returns
unfolding bytes
returns c =
    rw (no_count c.args.class c.args.number c.args.count (sym c.has_count.ensures ∙ c.if-has_count.false))
    (and_then
    (and_then
    (and_then
    (and_then
    (and_then c.put_bytes-next-2.ensures c.put_class-next-2.ensures)
    c.put_bytes-next-3.ensures) c.put_counts-next.ensures) c.put_bytes-next-4.ensures) c.put_number.ensures)
