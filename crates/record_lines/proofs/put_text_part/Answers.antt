-- A bar, then the text of the code, or a dash for code 0.
use Rattle.buffer.proofs.Appending.{and_then}
use Rattle.record_lines.proofs.Cases.{part_none, part-text}
use Rattle.texts.specs.Pool.{bytes}
use Rattle.record_lines.proofs.put_text_part.Goals as goal

pub returns-then-code-eq0 : goal.returns-then-code-eq0
unfolding bytes
returns-then-code-eq0 c =
    rw (part_none c.args.code c.if-code-eq0.true) (and_then c.put_bytes-next.ensures c.put_bytes.ensures)

pub returns : goal.returns
unfolding bytes
returns c =
    rw (part-text c.args.code c.if-code-eq0.false) (and_then c.put_bytes-next.ensures c.put_code.ensures)
