-- 01's order: the reserved top bits, then the class and its checks.
use mathlib.Core.Path.{sym, ap, ap₂, ◌∙◌}
use Rattle.texts.specs.Names.{names}
use Rattle.texts.specs.Pool.{code, index_in}
use Rattle.std.specs.Prelude.{Err}
use Rattle.refusals.specs.Refusals.{checked}
use Rattle.engine.specs.Engine.{failure_of}
use Rattle.engine.proofs.Laws.{top-fails, top-passes}
use Rattle.engine.proofs.judge.Goals as goal

pub returns-then-not-meets : goal.returns-then-not-meets
unfolding code index_in names
returns-then-not-meets c =
    ap Err c.refusal.ensures ∙ top-fails c.args.esr (sym c.meets.ensures ∙ c.if-not-meets.true)

pub returns : goal.returns
unfolding code index_in names
returns c =
    c.failure_of.ensures
    ∙ ap checked
    (ap₂ failure_of c.field.ensures c.field-2.ensures
    ∙ top-passes c.args.esr (sym c.meets.ensures ∙ c.if-not-meets.false))
