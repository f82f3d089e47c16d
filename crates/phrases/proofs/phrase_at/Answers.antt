-- By what is left: a head, and as many bytes as it counts.
use mathlib.Core.Path.{refl}
use native.Mathlib.Omega.{arith}
use Rattle.phrases.proofs.Laws.{at-short, at_long, at-phrase}
use Rattle.phrases.proofs.phrase_at.Goals as goal

pub returns-then-end-at-lt3 : goal.returns-then-end-at-lt3
returns-then-end-at-lt3 c = (at-short c.args.at _ _ c.requires.1 c.requires.0 c.if-end-at-lt3.true, refl)

pub returns-then-end-start : goal.returns-then-end-start
returns-then-end-start c =
    (at_long c.args.at _ _ c.requires.1 c.requires.0 c.if-end-at-lt3.false (omega arith), refl)

pub returns : goal.returns
returns c = (
  omega arith,
  omega arith,
  rw c.word.ensures (at-phrase c.args.at _ _ c.requires.1 c.requires.0 c.if-end-at-lt3.false _ refl (omega arith)),
)
