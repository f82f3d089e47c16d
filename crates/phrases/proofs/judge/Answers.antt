-- Each return is the refusal that its tests lead to, in the same order; past them the phrases are judged.
use mathlib.Core.Path.{sym, ap, ◌∙◌}
use Rattle.phrases.specs.Sheets.{sound_unless}
use Rattle.phrases.proofs.Cases.{judged-none, judged-zero, judged-short, judged_version, judged_phrases}
use Rattle.phrases.proofs.judge.Goals as goal

pub returns-then-sheet-lt2 : goal.returns-then-sheet-lt2
returns-then-sheet-lt2 c = ap sound_unless (sym (judged-none _ c.if-sheet-lt2.true))

pub returns-then-length-eq0 : goal.returns-then-length-eq0
returns-then-length-eq0 c =
    ap sound_unless (sym (judged-zero _ _ c.word-length.ensures c.if-sheet-lt2.false c.if-length-eq0.true))

pub returns-then-sheet-length : goal.returns-then-sheet-length
returns-then-sheet-length c =
    ap sound_unless
    (sym (judged-short _ _ c.word-length.ensures c.if-sheet-lt2.false c.if-length-eq0.false c.if-sheet-length.true))

pub returns-then-sheet-ne-VERSION : goal.returns-then-sheet-ne-VERSION
returns-then-sheet-ne-VERSION c =
    ap sound_unless
    (sym (judged_version _ _ c.word-length.ensures c.if-sheet-lt2.false c.if-length-eq0.false c.if-sheet-length.false
    c.if-sheet-ne-VERSION.true))

pub returns : goal.returns
returns c =
    c.judge_phrases.ensures
    ∙ ap sound_unless
    (sym (judged_phrases _ _ c.word-length.ensures c.if-sheet-lt2.false c.if-length-eq0.false c.if-sheet-length.false
    c.if-sheet-ne-VERSION.false))
