-- Three characters at most are taken before the digits, which end at the first stop; what stands from there on is asked
-- last.
use Rattle.std.proofs.Common.{refl, ◌∙◌, inr, arith}
use Rattle.number.proofs.Leads.{Ahead, lead_ahead, ahead_whole}
use Rattle.number.proofs.parse_number.Goals as goal
use Rattle.number.proofs.parse_number.Goals.{After-take_leads-last}
use Rattle.number.specs.Steps.{leads_of}

ahead : (c : After-take_leads-last) → Ahead c.args.s.now 3 c.take_leads-last.result
unfolding leads_of
ahead c =
    let s = c.args.s.now in
    lead_ahead s 2 _ c.take_leads-last.ensures.taken
    (lead_ahead s 1 _ refl
    (lead_ahead s 0 _ refl
    (rw c.start.ensures
    (record { within = refl; free = refl; same = refl; passed_over = omega arith; settled = inr (omega arith) }))))

pub read_digits-requires-clause-free : goal.read_digits-requires-clause-free
read_digits-requires-clause-free c = (ahead (goal.at.read_digits-requires-clause-free c).After-take_leads-last).free

pub returns-then-last : goal.returns-then-last
returns-then-last c =
    c.whole.ensures
    ∙ ahead_whole _ c.take_leads-last.result
    (ahead (goal.at.returns-then-last c).After-take_leads-last) c.read_digits.ensures.read

pub read_digits-requires-2-clause-free : goal.read_digits-requires-2-clause-free
read_digits-requires-2-clause-free c = (ahead (goal.at.read_digits-requires-2-clause-free c).After-take_leads-last).free

pub returns : goal.returns
returns c =
    c.whole-2.ensures
    ∙ ahead_whole _ c.take_leads-last.result (ahead (goal.at.returns c).After-take_leads-last) c.read_digits-2.ensures.read
