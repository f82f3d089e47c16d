-- By what may stand before the value, at it and after it.
use mathlib.Core.Path.{sym, ◌∙◌}
use native.Mathlib.Omega.{arith}
use Rattle.buffer.proofs.Appending.{none}
use Rattle.make_lines.specs.Help.{may_at}
use Rattle.make_lines.proofs.Laws.{run_out, run_first, run_within, run_last}
use Rattle.texts.specs.Pool.{bytes}
use Rattle.make_lines.proofs.Leaf.put_run.Goals as goal

pub returns-then-not-may_be : goal.returns-then-not-may_be
returns-then-not-may_be c =
    let f = may_at c.args.self in
    rw (run_out f c.args.x (sym c.may_be.ensures ∙ c.if-not-may_be.true)) (none (omega arith))

pub returns-then-not-was : goal.returns-then-not-was
unfolding bytes
returns-then-not-was c =
    let f = may_at c.args.self in
    rw (run_first f c.args.x (sym c.may_be.ensures ∙ c.if-not-may_be.false)
    (sym c.was.ensures ∙ c.if-not-was.true))
    c.put_end.ensures

pub returns-then-may_be : goal.returns-then-may_be
returns-then-may_be c =
    let f = may_at c.args.self in
    rw (run_within f c.args.x (sym c.may_be.ensures ∙ c.if-not-may_be.false)
    (sym c.was.ensures ∙ c.if-not-was.false) (sym c.may_be-2.ensures ∙ c.if-may_be.true))
    (none (omega arith))

pub returns : goal.returns
unfolding bytes
returns c =
    let f = may_at c.args.self in
    rw (run_last f c.args.x (sym c.may_be.ensures ∙ c.if-not-may_be.false)
    (sym c.was.ensures ∙ c.if-not-was.false) (sym c.may_be-2.ensures ∙ c.if-may_be.false))
    c.put_end-2.ensures
