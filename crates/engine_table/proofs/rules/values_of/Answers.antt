-- Each arm is the number that is computed from the texts of its rule, which Rattle finds; past the last there is no rule.
use mathlib.Core.Path.{ap}
use native.Mathlib.Omega.{arith}
use Rattle.lookup.proofs.Numbers.{no_rule}
use Rattle.engine_table.proofs.rules.values_of.Goals as goal

pub returns-in_default : goal.returns-in_default
returns-in_default c = ap (λ d. d.0) (no_rule c.args.rule (omega arith))
