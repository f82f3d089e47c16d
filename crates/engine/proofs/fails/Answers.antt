-- A row that does not apply does not fail; one that does is looked at by its mark.
use mathlib.Core.Bool.{not}
use mathlib.Core.Logic.{inl, inr}
use mathlib.Core.Path.{sym, ap, ap₂, ◌∙◌}
use Prim.Native.Nat.{ℕ}
use lib.Dec.{eqb}
use Rattle.texts.specs.Pool.{describes}
use Rattle.records.specs.declared.Mark.TheVariants as mark
use Rattle.engine.proofs.Direct.{over, fails-by}
use Rattle.engine.proofs.fails.Goals as goal

pub returns-else-applies : goal.returns-else-applies
returns-else-applies c =
    c.if-applies.false ∙ over c.args.answers c.args.iss c.args.word (sym c.applies.ensures ∙ c.if-applies.false)

pub returns-in-Checked : goal.returns-in-Checked
returns-in-Checked c =
    let a = c.args in
    ap (λ (n : ℕ). not (eqb n 0)) c.value_in-value.ensures
    ∙ fails-by a.answers a.iss a.word (sym c.applies.ensures ∙ c.if-applies.true) c.byte.ensures c.of_kind.ensures
    mark.Checked c.in-Checked.is

pub returns-in-Coded : goal.returns-in-Coded
returns-in-Coded c =
    let a = c.args in
    ap not (c.describes.ensures ∙ ap₂ describes c.byte-in-Coded.ensures c.value_in-value.ensures)
    ∙ fails-by a.answers a.iss a.word (sym c.applies.ensures ∙ c.if-applies.true) c.byte.ensures c.of_kind.ensures
    mark.Coded c.in-Coded.is

pub returns-in-Free : goal.returns-in-Free
returns-in-Free c =
    let a = c.args in
    let by : _ = fails-by a.answers a.iss a.word (sym c.applies.ensures ∙ c.if-applies.true) c.byte.ensures
    c.of_kind.ensures in
    elim c.in-Free.is [ inl e ↦ by mark.Free e | inr e ↦ by mark.Unchecked e ]
