-- By whether the standard sheet has the code; its line is four appenders.
use mathlib.Core.Path.{sym, ◌∙◌}
use native.Mathlib.Omega.{arith}
use Rattle.buffer.proofs.Appending.{none, and_then}
use Rattle.texts.specs.Pool.{bytes}
use Rattle.sheet_lines.proofs.Laws.{no_line, a-line}
use Rattle.sheet_lines.proofs.put_code_line.Goals as goal

pub returns-then-not-is_records : goal.returns-then-not-is_records
returns-then-not-is_records c =
    let a = c.args in
    let there = rw c.from-number.ensures at c.is_records.ensures in
    rw (no_line a.code (sym there ∙ c.if-not-is_records.true)) (none (omega arith))

pub returns : goal.returns
unfolding bytes
returns c =
    let a = c.args in
    let there = rw c.from-number.ensures at c.is_records.ensures in
    let number = rw c.from-number.ensures at c.put_number-a.ensures in
    rw (a-line a.code (sym there ∙ c.if-not-is_records.false))
    (and_then number (and_then c.put_bytes-b.ensures (and_then c.put_code-c.ensures c.put_bytes.ensures)))
