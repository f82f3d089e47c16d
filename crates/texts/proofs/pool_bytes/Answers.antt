-- The constant is the bytes of the strings: both are computed.
use mathlib.Core.Path.{refl}
use Rattle.registers.specs.Registers.{registers}
use Rattle.texts.specs.Names.{names}
use Rattle.texts.specs.Pool.{pool, flat, bytes, texts, described, by_value, text_in}
use Rattle.texts.specs.Rules.{rules}
use Rattle.texts.proofs.pool_bytes.Goals as goal

pub returns : goal.returns
unfolding pool flat bytes texts described by_value text_in names rules registers
returns c = refl
