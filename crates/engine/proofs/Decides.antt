-- Each promise of this crate decides its answer: it says what the answer is.
use Rattle.promise.specs.Promise.{Decides}
use Rattle.promise.proofs.Laws.{same}
use Rattle.engine.specs.Promises.{Judged, Walked, Words, Put}

pub judge_decides : Decides Judged
judge_decides esr a b = same

pub records_of_decides : Decides Walked
records_of_decides esr a b = same

pub words_decides : Decides Words
words_decides item a b = same

pub put_records_decides : Decides Put
put_records_decides (esr, before) a b = same
