-- Each return is the refusal that its tests lead to, in the same order.
use mathlib.Core.Path.{sym, ap, ◌∙◌}
use Rattle.entry.proofs.Laws.{judged-none, judged-zero, judged-short, judged_version, judged-long, judged-sound}
use Rattle.refusals.specs.Refusals.{bare, checked}
use Rattle.refusals.specs.declared.Reason.{Reason}
use Rattle.refusals.specs.declared.Refusal.{Refusal}
use Rattle.std.specs.Prelude.{Result}
use Rattle.entry.proofs.judge.Goals as goal

abbrev answer : Reason → Result Unit Refusal
answer reason = checked (bare reason)

pub returns-then-block-lt2 : goal.returns-then-block-lt2
returns-then-block-lt2 c = c.refused.ensures ∙ ap answer (sym (judged-none _ c.if-block-lt2.true))

pub returns-then-length-eq0 : goal.returns-then-length-eq0
returns-then-length-eq0 c =
    c.refused-then-length-eq0.ensures
    ∙ ap answer (sym (judged-zero _ _ c.big_endian-length.ensures.0 c.if-block-lt2.false c.if-length-eq0.true))

pub returns-then-block-length : goal.returns-then-block-length
returns-then-block-length c =
    c.refused-then-block-length.ensures
    ∙ ap answer
    (sym (judged-short _ _ c.big_endian-length.ensures.0 c.if-block-lt2.false
    c.if-length-eq0.false c.if-block-length.true))

pub returns-then-block-ne-VERSION : goal.returns-then-block-ne-VERSION
returns-then-block-ne-VERSION c =
    c.refused-then-block-ne-VERSION.ensures
    ∙ ap answer
    (sym (judged_version _ _ c.big_endian-length.ensures.0 c.if-block-lt2.false
    c.if-length-eq0.false c.if-block-length.false c.if-block-ne-VERSION.true))

pub returns-then-length-ne-LENGTH : goal.returns-then-length-ne-LENGTH
returns-then-length-ne-LENGTH c =
    c.refused-then-length-ne-LENGTH.ensures
    ∙ ap answer
    (sym (judged-long _ _ c.big_endian-length.ensures.0 c.if-block-lt2.false
    c.if-length-eq0.false c.if-block-length.false c.if-block-ne-VERSION.false
    c.if-length-ne-LENGTH.true))

pub returns : goal.returns
returns c =
    ap answer
    (sym (judged-sound _ _ c.big_endian-length.ensures.0 c.if-block-lt2.false
    c.if-length-eq0.false c.if-block-length.false c.if-block-ne-VERSION.false
    c.if-length-ne-LENGTH.false))
