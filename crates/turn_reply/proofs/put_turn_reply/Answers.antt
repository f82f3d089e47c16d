-- By whether the value is refused, then by how many fields are meant.
use mathlib.Core.Path.{sym, ap, ◌∙◌}
use Rattle.esr.specs.declared.Answer.{Answer}
use Rattle.refusals.proofs.Cases.{passed-is, refused-is}
use Rattle.refusals.specs.Refusals.{passed}
use Rattle.reply_lines.specs.Lines.{refusal_line}
use Rattle.texts.specs.Pool.{bytes}
use Rattle.turn_reply.specs.Turns.{told, turn_at}
use Rattle.turn_reply.proofs.Laws.{by_turn, turn-refused, turn-found}
use Rattle.turn_reply.proofs.put_turn_reply.Goals as goal

pub returns-then-is_refused : goal.returns-then-is_refused
returns-then-is_refused c =
    let a = c.args in
    let d = c.decode-answer in
    let no = ap (λ (r : Answer). passed r.refusal) (sym d.ensures)
    ∙ refused-is d.result.refusal c.is_refused.ensures c.if-is_refused.true in
    by_turn _ _ (ap (λ (r : Answer). told (refusal_line r.refusal)) d.ensures
    ∙ turn-refused a.esr a.field.now a.number no) c.put_refusal.ensures

pub returns-in-Nowhere : goal.returns-in-Nowhere
unfolding bytes turn_at
returns-in-Nowhere c =
    let a = c.args in
    let d = c.decode-answer in
    let sound = ap (λ (r : Answer). passed r.refusal) (sym d.ensures)
    ∙ passed-is d.result.refusal c.is_refused.ensures c.if-is_refused.false in
    by_turn _ _ (turn-found a.esr a.field.now a.number sound c.in-Nowhere.ensures) c.put_bytes.ensures

pub returns-in-Once : goal.returns-in-Once
unfolding turn_at
returns-in-Once c =
    let a = c.args in
    let d = c.decode-answer in
    let sound = ap (λ (r : Answer). passed r.refusal) (sym d.ensures)
    ∙ passed-is d.result.refusal c.is_refused.ensures c.if-is_refused.false in
    by_turn _ _ (turn-found a.esr a.field.now a.number sound c.in-Once.ensures) c.put_turned.ensures

pub returns-in-Several : goal.returns-in-Several
unfolding bytes turn_at
returns-in-Several c =
    let a = c.args in
    let d = c.decode-answer in
    let sound = ap (λ (r : Answer). passed r.refusal) (sym d.ensures)
    ∙ passed-is d.result.refusal c.is_refused.ensures c.if-is_refused.false in
    by_turn _ _ (turn-found a.esr a.field.now a.number sound c.in-Several.ensures) c.put_bytes-in-Several.ensures
