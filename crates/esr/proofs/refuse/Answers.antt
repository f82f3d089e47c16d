-- The refusal as it came, and the empty set.
use mathlib.Core.Path.{ap}
use Rattle.records.specs.declared.Records.{Records}
use Rattle.esr.specs.Decode.{refused}
use Rattle.esr.proofs.refuse.Goals as goal

pub returns : goal.returns
unfolding refused
returns c = ap (λ (s : Records). record { refusal = c.args.refusal; records = s }) c.empty-none.ensures
