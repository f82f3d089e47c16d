-- The bit is shifted down and masked.
use Prim.Native.Nat.{ℕ, ◌/◌, ◌^◌}
use lib.Bits.{and_mask, mask_lt}
use Rattle.records.specs.Bits.{field_of}
use Rattle.engine.proofs.bit.Goals as goal

pub returns : goal.returns
unfolding field_of
returns c = let down : ℕ = c.args.v / 2 ^ c.args.position in (and_mask down 1, mask_lt down 1)
