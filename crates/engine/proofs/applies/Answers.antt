-- Both bytes are the number's own.
use mathlib.Core.Path.{ap₂}
use Prim.Native.Nat.{ℕ}
use lib.Bits.{bit_and}
use lib.Dec.{eqb}
use Rattle.engine.specs.Engine.{applies}
use Rattle.engine.proofs.applies.Goals as goal

pub returns : goal.returns
unfolding applies
returns c = ap₂ (λ (x y : ℕ). eqb (bit_and c.args.answers x) y) c.field.ensures c.field-2.ensures
