-- The sixteen digits are the definition's.
use mathlib.Core.Path.{refl}
use Rattle.texts.specs.Pool.{bytes}
use Rattle.digits.specs.Digits.{digit_char}
use Rattle.digits.proofs.digit.Goals as goal

pub returns : goal.returns
unfolding digit_char bytes
returns c = refl
