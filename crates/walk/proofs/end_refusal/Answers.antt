-- By whether an entry stands there.
use Rattle.std.proofs.Common.{sym, ap, ◌∙◌}
use Rattle.std.specs.Result.{result_err}
use Rattle.walk.proofs.Laws.{end-over, end_bad}
use Rattle.walk.proofs.end_refusal.Goals as goal

pub returns-then-is_over : goal.returns-then-is_over
returns-then-is_over c = sym (end-over _ (sym c.is_over.ensures ∙ c.if-is_over.true))

pub returns : goal.returns
returns c =
    c.err.ensures.value ∙ ap result_err c.read_entry.ensures
    ∙ sym (end_bad _ (sym c.is_over.ensures ∙ c.if-is_over.false))
