-- By whether either value is refused.
use mathlib.Core.Bool.{Bool, true, false, not, ◌&&◌, ◌||◌}
use mathlib.Core.Path.{◌≡◌, refl, sym, ap, ap₂, ◌∙◌}
use Rattle.buffer.proofs.Appending.{and_then}
use Rattle.esr.specs.declared.Answer.{Answer}
use Rattle.refusals.specs.Refusals.{passed}
use Rattle.diff_reply.specs.Replies.{diff_text}
use Rattle.diff_reply.proofs.put_diff_reply.Goals as goal

either : (p q : Bool) → not p || not q ≡ true → p && q ≡ false
either true true e = sym e
either true false e = refl
either false q e = refl

neither : (p q : Bool) → not p || not q ≡ false → p && q ≡ true
neither true true e = refl
neither true false e = sym e
neither false q e = sym e

pub returns-then-is_refused : goal.returns-then-is_refused
unfolding diff_text
returns-then-is_refused c =
    let one = c.is_refused.ensures ∙ ap (λ (r : Answer). not (passed r.refusal)) c.decode-one.ensures in
    let two = c.is_refused-2.ensures ∙ ap (λ (r : Answer). not (passed r.refusal)) c.decode-two.ensures in
    let test = either _ _ (ap₂ (λ (a b : Bool). a || b) (sym one) (sym two) ∙ c.if-is_refused.true) in
    rw test (and_then c.put_refused_part-next.ensures c.put_refused_part.ensures)

pub returns : goal.returns
unfolding diff_text
returns c =
    let one = c.is_refused.ensures ∙ ap (λ (r : Answer). not (passed r.refusal)) c.decode-one.ensures in
    let two = c.is_refused-2.ensures ∙ ap (λ (r : Answer). not (passed r.refusal)) c.decode-two.ensures in
    let test = neither _ _ (ap₂ (λ (a b : Bool). a || b) (sym one) (sym two) ∙ c.if-is_refused.false) in
    rw (test, ← c.decode-one.ensures, ← c.decode-two.ensures)
    (and_then c.put_side_by_side-next.ensures c.put_other_rows.ensures)
