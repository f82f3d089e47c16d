-- By the kind of the place; each label is one or two appenders.
use Rattle.buffer.proofs.Appending.{and_then}
use Rattle.survey_reply.proofs.Laws.{label-class, label-none, label-refusal}
use Rattle.texts.specs.Pool.{bytes}
use Rattle.survey_reply.proofs.put_label.Goals as goal

pub returns-then-place-lt-CLASSES : goal.returns-then-place-lt-CLASSES
unfolding bytes
returns-then-place-lt-CLASSES c =
    rw (label-class c.args.place c.if-place-lt-CLASSES.true) (and_then c.put_bytes-next.ensures c.put_digits.ensures)

pub returns-then-place-lt-NO_NUMBER : goal.returns-then-place-lt-NO_NUMBER
unfolding bytes
returns-then-place-lt-NO_NUMBER c =
    rw (label-refusal c.args.place c.if-place-lt-CLASSES.false c.if-place-lt-NO_NUMBER.true)
    (and_then c.put_bytes-next-then-place-lt-NO_NUMBER.ensures (rw c.value_number.ensures at c.put_number.ensures))

pub returns : goal.returns
unfolding bytes
returns c = rw (label-none c.args.place c.if-place-lt-NO_NUMBER.false) c.put_bytes.ensures
