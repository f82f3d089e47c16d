-- The phrases are measured, then the sheet; then it is written, or the buffer is too short.
use mathlib.Core.Path.{refl}
use native.Mathlib.Omega.{arith}
use Rattle.buffer.proofs.Appending.{measured}
use Rattle.sheets.proofs.Laws.{phrases_fit, sheet-small}
use Rattle.written.proofs.Kept.{exit, by_shortness, by_writing}
use Rattle.sheets.proofs.standard_sheet.Goals as goal

pub put_sheet-requires : goal.put_sheet-requires
put_sheet-requires c = measured c.put_phrases-count.ensures (omega (arith, phrases_fit))

pub returns-in_err-bytes : goal.returns-in_err-bytes
returns-in_err-bytes c =
    by_shortness refl sheet-small c.put_sheet.ensures c.room_for.ensures c.in_err-bytes.was
    (exit c.from_residual.ensures)

pub put_sheet-requires-2 : goal.put_sheet-requires-2
put_sheet-requires-2 c = measured c.put_phrases-count.ensures (omega (arith, phrases_fit))

pub returns : goal.returns
returns c =
    by_writing refl sheet-small c.put_sheet.ensures c.room_for.ensures c.in_ok-bytes.was c.put_sheet-2.ensures refl
