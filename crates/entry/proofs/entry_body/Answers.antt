-- The judgement tells which part is handed back: none of the block, or the 11 bytes after its length, which are there.
use borrow.Author.Tests.{eq-eqb, ne_eqb}
use native.Mathlib.Omega.{arith}
use Rattle.entry.proofs.Laws.{facts, judged_free, judged_bad}
use Rattle.entry.specs.Entries.{body_of}
use Rattle.entry.proofs.entry_body.Goals as goal

pub returns-then-is_err : goal.returns-then-is_err
unfolding body_of
returns-then-is_err c = simp (ne_eqb _ _ (judged_bad _ c.judge.ensures c.is_err.ensures.value c.if-is_err.true))

pub slice_bounds-result-end-2 : goal.slice_bounds-result-end-2
slice_bounds-result-end-2 c =
    omega (arith, (facts _ (judged_free _ c.judge.ensures c.is_err.ensures.value c.if-is_err.false)).long)

pub returns : goal.returns
unfolding body_of
returns c = simp (eq-eqb _ _ (judged_free _ c.judge.ensures c.is_err.ensures.value c.if-is_err.false))
