-- Shifted down and masked with as many ones as the field is wide; past the value's 64 bits by the laws of fields.
use mathlib.Core.Path.{sym}
use native.Mathlib.Omega.{arith}
use lib.Pow.{pow_pos}
use Rattle.records.specs.Bits.{field_of}
use Rattle.records.proofs.Laws.{field_past, field-rest, shifted_one, masked}
use Rattle.records.proofs.field.Goals as goal

pub returns-then-start-ge64 : goal.returns-then-start-ge64
returns-then-start-ge64 c = sym (field_past 64 c.args.v c.args.start c.args.width (omega arith) (omega arith))

pub returns-then-width-ge64 : goal.returns-then-width-ge64
returns-then-width-ge64 c = sym (field-rest 64 c.args.v c.args.start c.args.width (omega arith) (omega arith))

pub overflow_sub-result : goal.overflow_sub-result
overflow_sub-result c = omega (arith, shifted_one 64 c.args.width (omega arith), pow_pos c.args.width)

pub returns : goal.returns
unfolding field_of
returns c = masked 64 _ c.args.width (omega arith)
