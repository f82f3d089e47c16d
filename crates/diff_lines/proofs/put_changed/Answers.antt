-- The values, then by whether either has a text.
use Rattle.buffer.proofs.Appending.{and_then}
use mathlib.Core.List.{append-nil}
use Rattle.diff_lines.specs.Lines.{changed_lines, values_line}
use Rattle.diff_lines.proofs.put_changed.Goals as goal

pub returns-then-first-second : goal.returns-then-first-second
unfolding changed_lines
returns-then-first-second c =
    let a = c.args in
    rw (c.if-first-second.true, append-nil (values_line a.mark.now a.index a.first a.second)) c.put_values-next.ensures

pub returns : goal.returns
unfolding changed_lines
returns c = rw c.if-first-second.false (and_then c.put_values-next.ensures c.put_both_texts.ensures)
