-- A place past the last one is none: nothing is set there.
use mathlib.Core.Path.{sym}
use native.Mathlib.Omega.{arith}
use lib.Seq.{set_out}
use Rattle.given_numbers.proofs.keep.Goals as goal

pub returns-else-at-numbers : goal.returns-else-at-numbers
returns-else-at-numbers c =
    let a = c.args in
    sym (set_out a.numbers.now a.at a.value (omega arith))
