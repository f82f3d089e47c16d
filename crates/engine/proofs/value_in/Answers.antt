-- Shifted down and masked with as many ones as the field is wide; both are below 64, as of every direct row.
use mathlib.Core.Path.{ap₂, ◌∙◌}
use Prim.Native.Nat.{◌<◌}
use native.Mathlib.Omega.{arith}
use Rattle.records.specs.Bits.{field_of}
use Rattle.records.proofs.Laws.{masked}
use Rattle.engine.specs.Engine.{row_in}
use Rattle.engine.proofs.Direct.{low-start, low-width}
use Rattle.engine.proofs.value_in.Goals as goal

start-low : (c : goal.After-field-width) → c.field-start.result < 64
start-low c = omega (arith, low-start c.args.word c.requires)

width_low : (c : goal.After-field-width) → c.field-width.result < 64
width_low c = omega (arith, low-width c.args.word c.requires)

pub returns : goal.returns
unfolding row_in field_of
returns c =
    let a = c.args in
    masked 64 _ c.field-width.result (width_low c) ∙ ap₂ (field_of a.v) c.field-start.ensures c.field-width.ensures
