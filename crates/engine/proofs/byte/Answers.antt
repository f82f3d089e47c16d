-- A field of eight bits fits a byte.
use Prim.Native.Nat.{◌*◌}
use native.Mathlib.Omega.{arith}
use Rattle.records.proofs.Laws.{field_lt}
use Rattle.engine.proofs.byte.Goals as goal

pub overflow_cast-result : goal.overflow_cast-result
overflow_cast-result c = omega (arith, field_lt c.args.word (8 * c.args.at) 8)
