-- In each arm the status is that number, whose kind is computed; in the last it is none of the eight from 0x10 on.
use native.Mathlib.Omega.{arith}
use Rattle.layout_sets.proofs.Outcomes.{no_kind}
use Rattle.layout_sets.proofs.kind_of.Goals as goal

pub returns-in_default : goal.returns-in_default
returns-in_default c = no_kind c.args.status (λ n a b e. omega arith)
