-- Each arm is a place in the list of marks; the last knows that the number leaves none of the others.
use native.Mathlib.Omega.{arith}
use Rattle.records.proofs.ByMark.{mark-at}
use Rattle.records.proofs.Mark.of_kind.Goals as goal

pub returns-in-0 : goal.returns-in-0
returns-in-0 c = mark-at c.args.kind 0 (omega arith)

pub returns-in-1 : goal.returns-in-1
returns-in-1 c = mark-at c.args.kind 1 (omega arith)

pub returns-in-2 : goal.returns-in-2
returns-in-2 c = mark-at c.args.kind 2 (omega arith)

pub returns-in_default : goal.returns-in_default
returns-in_default c = mark-at c.args.kind 3 (omega arith)
