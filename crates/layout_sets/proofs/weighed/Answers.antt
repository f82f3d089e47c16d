-- The two cases of the comparison with 1.
use borrow.Author.Tests.{eq-eqb, ne_eqb}
use Rattle.layout_sets.proofs.weighed.Goals as goal

pub returns-then-bit-eq1 : goal.returns-then-bit-eq1
returns-then-bit-eq1 c = rw (eq-eqb c.args.bit 1 c.if-bit-eq1.true)

pub returns-else-bit-eq1 : goal.returns-else-bit-eq1
returns-else-bit-eq1 c = rw (ne_eqb c.args.bit 1 c.if-bit-eq1.false)
