-- The length is the next start less this one; past the last start it is 0, and where the next is not after, the
-- difference is 0.
use mathlib.Core.Path.{sym}
use native.Mathlib.Omega.{arith}
use Rattle.texts.specs.Pool.{length_in}
use Rattle.texts.proofs.Laws.{past-starts}
use Rattle.lookup.proofs.length_in.Goals as goal

pub returns-in_default : goal.returns-in_default
returns-in_default c =
    let a = c.args in
    sym (past-starts a.starts.now a.code (omega (arith, c.in_default.ensures.lookup)))

pub returns : goal.returns
unfolding length_in
returns c = grind arith
