-- The code is that of the class in the rule's texts.
use Rattle.texts.proofs.Laws.{text-described}
use Rattle.texts.specs.Pool.{bytes_at}
use Rattle.texts.specs.Rules.{class_name}
use Rattle.make_reply.proofs.put_class_text.Goals as goal

pub returns : goal.returns
unfolding bytes_at
returns c =
    rw (← (text-described class_name.number c.args.class)) (rw c.text_code-code.ensures at c.put_code.ensures)
