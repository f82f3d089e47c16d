-- By whether a label begins the line; the number is what follows.
use mathlib.Core.Path.{sym, ◌∙◌}
use Rattle.refusals.proofs.Cases.{passed-is, refused-is}
use Rattle.survey_reply.proofs.Laws.{count-none, count-some, count_unread, found-read}
use Rattle.survey_reply.proofs.read_count.Goals as goal

pub returns-in_err-found : goal.returns-in_err-found
returns-in_err-found c = c.from_residual.ensures ∙ sym (count_unread c.args.line.now c.in_err-found.ensures)

pub returns-then-is_refused : goal.returns-then-is_refused
returns-then-is_refused c =
    let n = c.parse_number-number in
    sym (count-none _ n.result (refused-is n.result.refusal c.is_refused.ensures c.if-is_refused.true))
    ∙ found-read c.args.line.now c.in_ok-found.ensures n.ensures

pub returns : goal.returns
returns c =
    let n = c.parse_number-number in
    sym (count-some _ n.result (passed-is n.result.refusal c.is_refused.ensures c.if-is_refused.false))
    ∙ found-read c.args.line.now c.in_ok-found.ensures n.ensures
