-- By where the field lies: three ways not to lie within 64 bits, and a shift.
use Rattle.std.proofs.Common.{arith}
use Rattle.reading.proofs.Sums.{back_none, back-past, back_in}
use Rattle.reading.proofs.shifted_back.Goals as goal

pub returns-then-field-eq0 : goal.returns-then-field-eq0
returns-then-field-eq0 c = back_none c.args.field c.if-field-eq0.true

pub returns-then-field-gt64 : goal.returns-then-field-gt64
returns-then-field-gt64 c = back-past c.args.field (omega arith)

pub returns-then-field : goal.returns-then-field
returns-then-field c = back-past c.args.field (omega arith)

pub returns : goal.returns
returns c = back_in c.args.field (omega arith) (omega arith)
