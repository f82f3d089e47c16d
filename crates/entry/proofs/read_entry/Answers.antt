-- The judgement tells whether the numbers are read; a sound entry has the 13 bytes that they stand in.
use mathlib.Core.Path.{sym}
use native.Mathlib.Omega.{arith}
use Rattle.entry.proofs.Laws.{facts, checked-sound, checked_refused, entry-sound}
use Rattle.std.proofs.lemmas.Result.{err_from_is_err_and}
use Rattle.entry.proofs.read_entry.Goals as goal

pub returns-in_err-judge : goal.returns-in_err-judge
returns-in_err-judge c =
    let p = err_from_is_err_and c.from_residual.result c.from_residual.ensures.1 in
    rw (p.1, p.2) (sym (checked_refused _ c.judge.ensures c.in_err-judge.was))

pub slice_bounds-big_endian-end : goal.slice_bounds-big_endian-end
slice_bounds-big_endian-end c = omega (arith, (facts _ (checked-sound _ c.judge.ensures c.in_ok-judge.was)).long)

pub slice_bounds-big_endian-end-2 : goal.slice_bounds-big_endian-end-2
slice_bounds-big_endian-end-2 c = omega (arith, (facts _ (checked-sound _ c.judge.ensures c.in_ok-judge.was)).long)

pub returns : goal.returns
returns c =
    rw (c.big_endian-sequence.ensures.0, c.big_endian-esr.ensures.0)
    (sym (entry-sound _ (checked-sound _ c.judge.ensures c.in_ok-judge.was)))
