-- Before 0 there is none.
use Prim.Native.Nat.{ℕ}
use mathlib.Core.Bool.{not}
use mathlib.Core.Path.{ap, ◌∙◌}
use lib.Dec.{eqb}
use Rattle.make_lines.specs.Help.{may_at}
use Rattle.make_lines.proofs.Laws.{before-none, before-some}
use Rattle.make_lines.proofs.Leaf.was.Goals as goal

pub returns-then-x-ne0 : goal.returns-then-x-ne0
returns-then-x-ne0 c =
    c.may_be.ensures ∙ before-some (may_at c.args.self) c.args.x c.if-x-ne0.true

pub returns-else-x-ne0 : goal.returns-else-x-ne0
returns-else-x-ne0 c =
    ap (λ (n : ℕ). not (eqb n 0)) c.if-x-ne0.false
    ∙ before-none (may_at c.args.self) c.args.x c.if-x-ne0.false
