-- By whether the line is the only one, and whether its number is refused.
use Rattle.buffer.proofs.Appending.{none}
use Rattle.refusals.proofs.Cases.{passed-is, refused-is}
use Rattle.listing_reply.specs.Replies.{name_line}
use Rattle.texts.specs.Pool.{bytes}
use borrow.Author.Tests.{eq-eqb, ne_eqb}
use native.Mathlib.Omega.{arith}
use Rattle.listing_reply.proofs.put_name.Goals as goal

pub returns-then-line-eq0 : goal.returns-then-line-eq0
unfolding name_line
returns-then-line-eq0 c =
    let a = c.args in
    rw (eq-eqb a.line 0 c.if-line-eq0.true) (none (omega arith))

pub returns-then-is_refused : goal.returns-then-is_refused
unfolding name_line bytes
returns-then-is_refused c =
    let a = c.args in
    rw (ne_eqb a.line 0 c.if-line-eq0.false, refused-is a.number.refusal c.is_refused.ensures c.if-is_refused.true)
    c.put_number_line.ensures

pub returns : goal.returns
unfolding name_line bytes
returns c =
    let a = c.args in
    rw (ne_eqb a.line 0 c.if-line-eq0.false, passed-is a.number.refusal c.is_refused.ensures c.if-is_refused.false)
    c.put_number_line-2.ensures
