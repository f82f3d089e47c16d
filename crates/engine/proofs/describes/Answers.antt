-- The rule's number has the value's bit exactly if the rule has a text for it.
use mathlib.Core.Path.{ap, ◌∙◌}
use Prim.Native.Nat.{ℕ}
use Rattle.lookup.specs.Descriptions.{bit_in}
use Rattle.lookup.proofs.Numbers.{bit_in_lem}
use Rattle.engine.proofs.describes.Goals as goal

pub returns : goal.returns
returns c =
    let a = c.args in
    c.has.ensures ∙ ap (λ (n : ℕ). bit_in n a.value) c.values_of.ensures ∙ bit_in_lem a.rule a.value
