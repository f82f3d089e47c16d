-- By whether the word is a number.
use Rattle.refusals.proofs.Cases.{passed-is, refused-is}
use Rattle.turn_fields.proofs.Laws.{no_number, at-bit}
use Rattle.turn_fields.proofs.by_bit.Goals as goal

pub returns-then-is_refused : goal.returns-then-is_refused
returns-then-is_refused c =
    let n = c.parse_number-number in
    no_number c.args.esr c.args.word.now n.result n.ensures
    (refused-is n.result.refusal c.is_refused.ensures c.if-is_refused.true)

pub returns : goal.returns
returns c =
    let n = c.parse_number-number in
    at-bit c.args.esr c.args.word.now n.result n.ensures
    (passed-is n.result.refusal c.is_refused.ensures c.if-is_refused.false) c.seek.ensures
