-- Two appenders: length and version, then the phrases, which two bytes count.
use native.Mathlib.Omega.{arith}
use Rattle.buffer.proofs.Appending.{and_then}
use Rattle.phrases.specs.Writing.{sheet_bytes}
use Rattle.sheets.specs.Standard.{standard_sheet}
use Rattle.sheets.proofs.Laws.{phrases_fit, two-bytes}
use Rattle.sheets.proofs.put_sheet.Goals as goal

pub overflow_add-following : goal.overflow_add-following
overflow_add-following c = omega (arith, c.requires, phrases_fit)

pub overflow_cast-following : goal.overflow_cast-following
overflow_cast-following c = omega (arith, c.requires, phrases_fit)

pub returns : goal.returns
unfolding standard_sheet sheet_bytes
returns c =
    let following = two-bytes c.to_be_bytes.ensures (omega (arith, c.requires, phrases_fit)) in
    rw (← c.requires) (and_then (rw (following.0, following.1) at c.put_bytes-a.ensures) c.put_phrases.ensures)
