-- The invariant: what the lines from the index on refuse is what all of them do.
use mathlib.Core.Path.{◌≡◌}
use lib.ListN.{drop}
use Rattle.strict.specs.Code.{lines}
use Rattle.strict.specs.Strict.{record_refusal, refusal_in}
use Rattle.strict.specs.Stricter.{stricter}
use Rattle.strict.proofs.record_refusal.Given as goal

abbrev pub invariant-loop-line : goal.invariant-loop-line
invariant-loop-line l =
    (l.line-items ≡ lines)
    × (record_refusal l.nested l.field ≡ refusal_in (drop l.line-index stricter) l.nested l.field)
