-- By whether the field is the class, then by the layout.
use mathlib.Core.Bool.{false}
use mathlib.Core.Path.{◌≡◌, ◌∙◌}
use native.Mathlib.Omega.{arith}
use Rattle.named_fields.proofs.Laws.{named-either, named_step, named_instruction, named_data, named-serror, named_none}
use Rattle.named_fields.specs.Fields.{is_field}
use Rattle.named_fields.proofs.is_named.Goals as goal
use Rattle.named_fields.proofs.is_named.Goals.{in-13, in-15, in-16, in-17, in_default}

pub returns : goal.returns
unfolding is_field
returns c =
    let a = c.args in
    let n = c.layout_number.result in
    let is = c.layout_number.ensures in
    named-either a.class a.start a.width n is c.eq-is_class.result c.eq-is_class.ensures
    (λ (other : false ≡ is_field a.start a.width 26 6).
    elim c.match-layout_number.branch [
      | in-13 w ↦ w.is_asked-is ∙ named_step a.class a.start a.width n is other w.in-13.is c.eq-bit_24.ensures
      | in-15 w ↦ w.is_asked-is ∙ named_instruction a.class a.start a.width n is other w.in-15.is c.eq-status.ensures
      | in-16 w ↦
          w.is_asked-is
          ∙ named_data a.class a.start a.width n is other c.eq-bit_24.ensures c.eq-status.ensures w.in-16.is
          c.eq-bit_10.ensures
      | in-17 w ↦
          w.is_asked-is
          ∙ named-serror a.class a.start a.width n is other c.eq-bit_24.ensures c.eq-status.ensures w.in-17.is
          c.eq-bit_7.ensures
      | in_default w ↦
          w.is_asked-is
          ∙ named_none a.class a.start a.width n is other (omega arith) (omega arith) (omega arith) (omega arith)
    ])
