-- Nothing where no set has so many leaves; the first number after a space, each other after `or`.
use mathlib.Core.Path.{sym, ◌∙◌}
use native.Mathlib.Omega.{arith}
use Rattle.buffer.proofs.Appending.{and_then, none}
use Rattle.make_reasons.proofs.Laws.{count_none, count_or, count-first}
use Rattle.texts.specs.Pool.{bytes}
use Rattle.make_reasons.proofs.put_count.Goals as goal

pub returns-then-not-has_count : goal.returns-then-not-has_count
returns-then-not-has_count c =
    rw (count_none c.args.number c.args.n (sym c.has_count.ensures ∙ c.if-not-has_count.true)) (none (omega arith))

pub returns-then-has_fewer : goal.returns-then-has_fewer
unfolding bytes
returns-then-has_fewer c =
    rw
    (count_or c.args.number c.args.n (sym c.has_count.ensures ∙ c.if-not-has_count.false)
    (sym c.has_fewer.ensures ∙ c.if-has_fewer.true)) (and_then c.put_bytes-next.ensures c.put_number.ensures)

pub returns : goal.returns
unfolding bytes
returns c =
    rw
    (count-first c.args.number c.args.n (sym c.has_count.ensures ∙ c.if-not-has_count.false)
    (sym c.has_fewer.ensures ∙ c.if-has_fewer.false)) (and_then c.put_bytes-next-2.ensures c.put_number-2.ensures)
