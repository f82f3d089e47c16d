-- The rule's bits say which values it has a text for.
use mathlib.Core.Path.{ap, ◌∙◌}
use Rattle.lookup.specs.Descriptions.{bit_in}
use Rattle.lookup.specs.declared.Descriptions.{Descriptions}
use Rattle.lookup.proofs.Numbers.{bit_in_lem}
use Rattle.lookup.proofs.describes.Goals as goal

pub returns : goal.returns
returns c =
    c.has.ensures
    ∙ ap (λ (s : Descriptions). bit_in s.0 c.args.value) c.in_numbers-s.ensures
    ∙ bit_in_lem c.args.rule c.args.value
