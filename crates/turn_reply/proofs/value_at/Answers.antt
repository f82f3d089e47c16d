-- By whether it is the field that is set.
use mathlib.Core.Path.{ap, ◌∙◌}
use Rattle.records.specs.Rows.{value_in}
use Rattle.records.specs.declared.Row.{Row}
use Rattle.turn_reply.proofs.Laws.{set_here, set-elsewhere}
use Rattle.turn_reply.proofs.value_at.Goals as goal

pub returns-then-i-index : goal.returns-then-i-index
returns-then-i-index c =
    let a = c.args in
    set_here a.esr a.index a.number a.i c.requires c.if-i-index.true

pub returns : goal.returns
returns c =
    let a = c.args in
    c.field.ensures ∙ ap (λ (x : Row). value_in a.esr x) c.field_row-row.ensures
    ∙ set-elsewhere a.esr a.index a.number a.i c.requires c.if-i-index.false
