-- The promise of this crate decides its answer: it says what the answer is, and what the lent array holds then.
use Rattle.promise.specs.Promise.{Decides}
use Rattle.promise.proofs.Laws.{same}
use Rattle.bench_layouts.specs.Promises.{FilledByLayouts}

pub esr_decode_by_layouts_decides : Decides FilledByLayouts
esr_decode_by_layouts_decides (esr, before) a b = same
