-- By the mark of the row's kind: that of a checked reserved field names the field, and no other does.
use mathlib.Core.Logic.{inl, inr}
use mathlib.Core.Path.{◌≡◌, refl, sym, ap, ap₂, ◌∙◌}
use Prim.Native.Nat.{ℕ, ◌/◌}
use Rattle.refusals.specs.Refusals.{carrying, reserved_bits}
use Rattle.refusals.specs.declared.Reason.TheVariants.{None}
use Rattle.records.specs.Kinds.{mark_of, reason_at}
use Rattle.records.specs.Rows.{refusal_of, value_in, row_kind}
use Rattle.records.specs.declared.Mark.{Mark}
use Rattle.records.specs.declared.Row.{Row}
use Rattle.records.proofs.ByMark.{refusal_by, marked-refusal}
use Rattle.records.proofs.Row.refusal.Goals as goal

-- by each mark the refusal is the row's
marked : (row : Row) (v : ℕ) (y : Mark) → y ≡ mark_of (row_kind row)
    → refusal_by y (reason_at (row.kind / 4)) row.start row.width (value_in v row) ≡ refusal_of v row
unfolding refusal_of
marked row v y e = marked-refusal row.kind _ y row.start row.width (value_in v row) e refl

pub returns-in-Free : goal.returns-in-Free
returns-in-Free c =
    c.carrying.ensures
    ∙ ap (carrying None) c.field-carries.ensures
    ∙ elim c.in-Free.is [
      | inl e ↦ marked c.args.self c.args.v _ (sym e ∙ c.of_kind.ensures)
      | inr e ↦ marked c.args.self c.args.v _ (sym e ∙ c.of_kind.ensures)
    ]

pub returns-in-Coded : goal.returns-in-Coded
returns-in-Coded c =
    c.carrying-in-Coded.ensures
    ∙ ap₂ carrying c.reason_at.ensures c.field-carries.ensures
    ∙ marked c.args.self c.args.v _ (sym c.in-Coded.is ∙ c.of_kind.ensures)

pub returns-in-Checked : goal.returns-in-Checked
returns-in-Checked c =
    let r = c.args.self in
    ap (reserved_bits r.start r.width) c.field-carries.ensures ∙ marked r c.args.v _ (sym c.in-Checked.is ∙ c.of_kind.ensures)
