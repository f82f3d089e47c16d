-- Each bit of an ISS is its own answer; a status is on a list where its bit of the list's number is set.
use native.Mathlib.Omega.{arith}
use Rattle.records.proofs.Laws.{field_lt}
use Rattle.engine.proofs.Laws.{answered}
use Rattle.engine.proofs.answers_of.Goals as goal

pub bit-requires-4 : goal.bit-requires-4
bit-requires-4 c = omega (arith, field_lt c.args.iss 0 6)

pub bit-requires-5 : goal.bit-requires-5
bit-requires-5 c = omega (arith, field_lt c.args.iss 0 6)

pub bit-requires-6 : goal.bit-requires-6
bit-requires-6 c = omega (arith, field_lt c.args.iss 0 6)

pub returns : goal.returns
returns c = omega (arith, answered c.args.iss c.field-status.result c.field-status.ensures)
