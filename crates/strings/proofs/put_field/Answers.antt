-- By the width: the value's string alone for one bit, else three appenders, one after the other.
use Rattle.buffer.proofs.Appending.{and_then}
use Rattle.strings.proofs.Cases.{field-bit, field_wide}
use Rattle.texts.specs.Pool.{bytes}
use Rattle.strings.proofs.put_field.Goals as goal

pub returns-then-width-eq1 : goal.returns-then-width-eq1
returns-then-width-eq1 c =
    let a = c.args in
    rw (field-bit a.width a.value c.if-width-eq1.true) c.put_value-a.ensures

pub returns : goal.returns
unfolding bytes
returns c =
    let a = c.args in
    rw (field_wide a.width a.value c.if-width-eq1.false)
    (and_then c.put_value-a.ensures (and_then c.put_bytes-b.ensures c.put_binary.ensures))
