-- Five appenders, one after the other, of what decode answers.
use mathlib.Core.Path.{◌≡◌}
use Rattle.strict.specs.Strict.{answer_by}
use Rattle.buffer.proofs.Appending.{and_then}
use Rattle.texts.specs.Pool.{bytes}
use Rattle.walk_lines.specs.Lines.{entry_line}
use Rattle.walk_lines.proofs.put_entry_line.Goals as goal

pub returns : goal.returns
unfolding entry_line bytes
returns c =
    let a = c.args in
    let is : c.decode_by.result ≡ answer_by a.profile a.entry.esr = c.decode_by.ensures in
    rw (← is) (and_then (and_then (and_then (and_then c.put_verdict-next.ensures c.put_place-next.ensures)
    c.put_numbers-next.ensures) c.put_meaning-next.ensures) c.put_bytes.ensures)
