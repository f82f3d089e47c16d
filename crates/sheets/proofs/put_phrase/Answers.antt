-- By whether a record can have the text of the code; a phrase is two appenders, its head and its text. A text is
-- counted by a byte.
use mathlib.Core.Path.{sym, ◌∙◌}
use native.Mathlib.Omega.{arith}
use Rattle.buffer.proofs.Appending.{none, and_then}
use Rattle.texts.proofs.Laws.{text-short}
use Rattle.sheets.proofs.Laws.{no_text, a-text, two-bytes}
use Rattle.sheets.proofs.put_phrase.Goals as goal

pub returns-then-not-is_told : goal.returns-then-not-is_told
returns-then-not-is_told c =
    rw (no_text c.args.code (sym c.is_told.ensures ∙ c.if-not-is_told.true)) (none (omega arith))

pub overflow_cast-head : goal.overflow_cast-head
overflow_cast-head c = omega (arith, c.length_of.ensures, text-short c.args.code)

pub returns : goal.returns
returns c =
    let code = two-bytes c.to_be_bytes.ensures (omega arith) in
    let head = rw (code.0, code.1, c.length_of.ensures) at c.put_bytes-a.ensures in
    rw (a-text c.args.code (sym c.is_told.ensures ∙ c.if-not-is_told.false)) (and_then head c.put_code.ensures)
