-- By the rule of ISS's own text, then by the leaves.
use Prim.Native.Nat.{ℕ}
use mathlib.Core.Path.{ap, ap₂, ◌∙◌}
use borrow.Author.Tests.{ne_eqb}
use Rattle.layouts.specs.Layouts.{layout_for, layout_number, table_of}
use Rattle.leaf_values.specs.Leaves.{leaves_of, same_rows}
use Rattle.named_fields.proofs.Laws.{other-rule, by-sets}
use Rattle.named_fields.proofs.same_rows.Goals as goal

pub returns-else-layout-next : goal.returns-else-layout-next
returns-else-layout-next c =
    let a = c.args in
    let one = c.layout_number-number.ensures ∙ ap layout_number c.field.ensures in
    let two = c.layout_number-other.ensures ∙ ap layout_number c.field-2.ensures in
    let is = c.layout_of-layout.ensures ∙ ap₂ (λ (i j : ℕ). layout_for (table_of i) j) one c.field-iss.ensures in
    let too = c.layout_of-next.ensures ∙ ap₂ (λ (i j : ℕ). layout_for (table_of i) j) two c.field-own.ensures in
    ne_eqb c.layout_of-layout.result.rule c.layout_of-next.result.rule c.if-layout-next.false
    ∙ other-rule a.first a.second is too c.if-layout-next.false

pub returns-then-layout-next : goal.returns-then-layout-next
returns-then-layout-next c =
    let a = c.args in
    let one = c.layout_number-number.ensures ∙ ap layout_number c.field.ensures in
    let two = c.layout_number-other.ensures ∙ ap layout_number c.field-2.ensures in
    let is = c.layout_of-layout.ensures ∙ ap₂ (λ (i j : ℕ). layout_for (table_of i) j) one c.field-iss.ensures in
    let too = c.layout_of-next.ensures ∙ ap₂ (λ (i j : ℕ). layout_for (table_of i) j) two c.field-own.ensures in
    by-sets a.first a.second is too c.if-layout-next.true
    (c.same_sets.ensures ∙ ap₂ same_rows (ap₂ leaves_of one c.field-iss.ensures)
    (ap₂ leaves_of two c.field-own.ensures))
