-- The records by the class and the ISS of the value.
use mathlib.Core.Path.{ap₂, ◌∙◌}
use Prim.Native.Nat.{ℕ}
use Rattle.records.specs.Sets.{records_of}
use Rattle.engine.specs.Engine.{records_by}
use Rattle.engine.proofs.records_of.Goals as goal

pub returns : goal.returns
returns c =
    c.all_records.ensures ∙ ap₂ (λ (k v : ℕ). records_of (records_by c.args.esr k v)) c.field.ensures c.field-2.ensures
