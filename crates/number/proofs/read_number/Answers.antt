-- The number before the first stop, and the bytes that stand there.
use Rattle.std.proofs.Common.{ℕ, ap, ◌∙◌}
use Rattle.number.specs.Numbers.{number_of}
use Rattle.number.specs.Rest.{before_stop, taking, read_of}
use Rattle.number.specs.declared.Number.{Number}
use Rattle.number.proofs.read_number.Goals as goal

pub returns : goal.returns
unfolding read_of
returns c =
    c.taking.ensures
    ∙ ap (λ (n : Number). taking n c.read_before.result.at) c.read_before.ensures.0
    ∙ ap (λ (k : ℕ). taking (number_of (before_stop c.args.s.now)) k) c.read_before.ensures.1
