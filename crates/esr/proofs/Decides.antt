-- Each promise of this crate decides its answer: it says what the answer is.
use Rattle.promise.specs.Promise.{Decides}
use Rattle.promise.proofs.Laws.{same}
use Rattle.esr.specs.Promises.{Decoded, LayoutNumber}

pub decode_decides : Decides Decoded
decode_decides esr a b = same

pub decode_by_layouts_decides : Decides Decoded
decode_by_layouts_decides esr a b = same

pub layout_number_decides : Decides LayoutNumber
layout_number_decides class a b = same
