-- The leaves of ISS, and the three above them.
use Prim.Native.Nat.{ℕ, ◌+◌}
use mathlib.Core.Path.{ap, ap₂, ◌∙◌}
use native.Mathlib.Omega.{arith}
use lib.ListN.{length}
use Rattle.layouts.specs.Layouts.{layout_number}
use Rattle.leaf_values.proofs.Laws.{few-leaves}
use Rattle.leaf_values.specs.Leaves.{leaves_of}
use Rattle.turn_fields.proofs.Laws.{counted}
use Rattle.turn_fields.proofs.field_count.Goals as goal

pub overflow_add-result : goal.overflow_add-result
overflow_add-result c = omega (arith, c.leaf_count.ensures, few-leaves c.layout_number-number.result c.field-2.result)

pub returns : goal.returns
returns c =
    let is =
    c.leaf_count.ensures
    ∙ ap length
    (ap₂ leaves_of (c.layout_number-number.ensures ∙ ap layout_number c.field.ensures) c.field-2.ensures) in
    ap (λ (k : ℕ). k + 3) is ∙ counted c.args.esr
