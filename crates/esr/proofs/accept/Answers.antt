-- The engine's records, and no refusal.
use mathlib.Core.Path.{ap}
use Rattle.records.specs.declared.Records.{Records}
use Rattle.refusals.specs.Refusals.{no_refusal}
use Rattle.esr.specs.Decode.{accepted}
use Rattle.esr.proofs.accept.Goals as goal

pub returns : goal.returns
unfolding accepted
returns c = ap (λ (s : Records). record { refusal = no_refusal; records = s }) c.records_of.ensures
