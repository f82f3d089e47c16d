-- The room is held against the text's length, and the text is put where it fits.
use Rattle.capi.proofs.Laws.{filled-short, filled-whole}
use Rattle.capi.proofs.esr_text.Goals as goal

pub returns-then-buf-length : goal.returns-then-buf-length
returns-then-buf-length c =
    filled-short _ _ c.length_of-length.ensures c.if-buf-length.true c.carrying.ensures c.filled_of.ensures

pub returns : goal.returns
returns c =
    filled-whole _ _ c.length_of-length.ensures c.if-buf-length.false c.filled_of-2.ensures c.write_text.ensures
