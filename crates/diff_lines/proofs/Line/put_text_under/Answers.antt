-- Of a text; that no text has no line is found by the check.
use Rattle.buffer.proofs.Appending.{and_then}
use borrow.Author.Tests.{ne_eqb}
use Rattle.texts.specs.Pool.{bytes}
use Rattle.diff_lines.specs.Lines.{text_under}
use Rattle.diff_lines.proofs.Line.put_text_under.Goals as goal

pub returns : goal.returns
unfolding text_under bytes
returns c =
    rw (ne_eqb c.args.code 0 c.if-code-eq0.false)
    (and_then (and_then (and_then c.put_front-next.ensures c.put_bytes-next.ensures) c.put_code-next.ensures)
    c.put_bytes.ensures)
