-- 01's order: the reserved top bits, the class, the layout.
use mathlib.Core.Path.{sym, ap, ◌∙◌}
use Rattle.texts.specs.Names.{names}
use Rattle.texts.specs.Pool.{code, index_in}
use Rattle.refusals.specs.Refusals.{carrying}
use Rattle.refusals.specs.declared.Reason.TheVariants.{InvalidEc}
use Rattle.layouts.specs.Layouts.{layout_number}
use Rattle.esr.specs.Decode.{refused}
use Rattle.esr.proofs.Laws.{top-fails, top-passes, class-empty, class-filled}
use Rattle.esr.proofs.decode_by_layouts.Goals as goal

pub returns-then-not-meets : goal.returns-then-not-meets
unfolding code index_in names
returns-then-not-meets c =
    c.refuse.ensures ∙ ap refused c.refusal.ensures ∙ top-fails c.args.esr (sym c.meets.ensures ∙ c.if-not-meets.true)

pub returns-then-number : goal.returns-then-number
unfolding code index_in names
returns-then-number c =
    c.refuse-then-number.ensures
    ∙ ap refused (c.carrying.ensures ∙ ap (carrying InvalidEc) c.field-class.ensures)
    ∙ class-empty c.args.esr c.layout_number-number.result
    (c.layout_number-number.ensures ∙ ap layout_number c.field-class.ensures) c.if-number.true
    ∙ top-passes c.args.esr (sym c.meets.ensures ∙ c.if-not-meets.false)

pub returns : goal.returns
unfolding code index_in names
returns c =
    c.read.ensures
    ∙ class-filled c.args.esr c.layout_number-number.result
    (c.layout_number-number.ensures ∙ ap layout_number c.field-class.ensures) c.if-number.false
    ∙ top-passes c.args.esr (sym c.meets.ensures ∙ c.if-not-meets.false)
