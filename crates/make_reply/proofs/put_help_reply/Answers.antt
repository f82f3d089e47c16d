-- By whether a layout serves the class.
use Rattle.buffer.proofs.Appending.{and_then}
use Rattle.make_reply.proofs.Laws.{help_refused, help_sets}
use Rattle.texts.specs.Pool.{bytes}
use Rattle.make_reply.proofs.put_help_reply.Goals as goal

pub returns-then-number : goal.returns-then-number
returns-then-number c =
    let number = c.layout_number-number in
    let refused = help_refused c.args.class number.result number.ensures c.if-number.true in
    rw (refused, ← c.carrying.ensures) c.put_refusal.ensures

pub returns : goal.returns
unfolding bytes
returns c =
    rw (help_sets c.args.class c.layout_number-number.result c.layout_number-number.ensures c.if-number.false)
    (and_then (and_then
    (and_then (and_then (and_then c.put_bytes-next.ensures c.put_number-next.ensures) c.put_bytes-next-2.ensures)
    c.put_class_text-next.ensures) c.put_bytes-next-3.ensures) c.put_sets.ensures)
