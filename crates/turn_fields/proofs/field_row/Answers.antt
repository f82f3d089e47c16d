-- By the index: one of the three, or a leaf of ISS.
use mathlib.Core.Path.{sym, ap, ap₂, ◌∙◌}
use native.Mathlib.Omega.{arith}
use Prim.Native.Nat.{ℕ, ◌-◌}
use lib.ListN.{get_or}
use Rattle.layouts.specs.Layouts.{layout_number, pad}
use Rattle.leaf_values.specs.Values.{leaf_row}
use Rattle.tables.specs.Tables.{top_rows}
use Rattle.texts.specs.Pool.{code, index_in}
use Rattle.texts.specs.Names.{names}
use Rattle.turn_fields.specs.Fields.{fields_of}
use Rattle.turn_fields.proofs.Laws.{own_row}
use Rattle.turn_fields.proofs.field_row.Goals as goal

pub returns-in-0 : goal.returns-in-0
unfolding fields_of top_rows code index_in names
returns-in-0 c = ap (λ (i : ℕ). get_or (fields_of c.args.esr) i pad) (sym c.in-0.is)

pub returns-in-1 : goal.returns-in-1
unfolding fields_of top_rows code index_in names
returns-in-1 c = ap (λ (i : ℕ). get_or (fields_of c.args.esr) i pad) (sym c.in-1.is)

pub returns-in-2 : goal.returns-in-2
unfolding fields_of top_rows code index_in names
returns-in-2 c = ap (λ (i : ℕ). get_or (fields_of c.args.esr) i pad) (sym c.in-2.is)

pub returns-in_default : goal.returns-in_default
returns-in_default c =
    let a = c.args in
    c.leaf_row.ensures
    ∙ ap₂ (λ (m i : ℕ). leaf_row m i (a.index - 3))
    (c.layout_number-number.ensures ∙ ap layout_number c.field.ensures) c.field-in_default.ensures
    ∙ own_row a.esr a.index (λ e. omega (arith, e)) (λ e. omega (arith, e)) (λ e. omega (arith, e))
