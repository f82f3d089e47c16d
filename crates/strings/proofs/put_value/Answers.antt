-- By cases of the width and the value.
use Rattle.buffer.proofs.Appending.{and_then}
use Rattle.strings.proofs.Cases.{value_true, value_false, value_wide}
use Rattle.texts.specs.Pool.{bytes}
use Rattle.strings.proofs.put_value.Goals as goal

pub returns-then-value-eq1 : goal.returns-then-value-eq1
unfolding bytes
returns-then-value-eq1 c =
    rw (value_true c.args.width c.args.value c.if-width-eq1.true c.if-value-eq1.true) c.put_bytes.ensures

pub returns-then-width-eq1 : goal.returns-then-width-eq1
unfolding bytes
returns-then-width-eq1 c =
    rw (value_false c.args.width c.args.value c.if-width-eq1.true c.if-value-eq1.false)
    c.put_bytes-then-width-eq1.ensures

pub returns : goal.returns
unfolding bytes
returns c =
    rw (value_wide c.args.width c.args.value c.if-width-eq1.false)
    (and_then c.put_bytes-next.ensures c.put_digits.ensures)
