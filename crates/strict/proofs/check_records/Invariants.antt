-- The invariant: what the records from the index on refuse is what all of them do.
use mathlib.Core.Path.{◌≡◌}
use lib.ListN.{drop}
use Rattle.strict.specs.Strict.{first_refusal}
use Rattle.strict.proofs.check_records.Given as goal

abbrev pub invariant-loop-field : goal.invariant-loop-field
invariant-loop-field l = first_refusal l.nested l.records ≡ first_refusal l.nested (drop l.field-index l.records)
