-- The constant is where the strings start: both are computed.
use mathlib.Core.Path.{refl}
use Rattle.registers.specs.Registers.{registers}
use Rattle.texts.specs.Names.{names}
use Rattle.texts.specs.Pool.{starts, starts_from, bytes, texts, described, by_value, text_in}
use Rattle.texts.specs.Rules.{rules}
use Rattle.texts.proofs.text_starts.Goals as goal

pub returns : goal.returns
unfolding starts starts_from bytes texts described by_value text_in names rules registers
returns c = refl
