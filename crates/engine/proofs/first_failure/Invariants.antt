-- The invariant: what is left of the checks answers as all of them do.
use mathlib.Core.Path.{◌≡◌}
use Prim.Native.Nat.{◌-◌}
use Rattle.engine.specs.Engine.{failure_from}
use Rattle.engine.proofs.first_failure.Given as goal

abbrev pub invariant-loop : goal.invariant-loop
invariant-loop l =
    failure_from l.answers l.iss l.indices l.count ≡ failure_from l.answers l.iss l.rest (l.count - l.counter)
