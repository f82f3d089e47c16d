-- Where a character is not taken, none behind it is: so what the first refusal leaves is what three steps leave.
use Rattle.std.proofs.Common.{◌≡◌, ◌∙◌, ap, refl, drop, ℕ, zero, suc, List}
use Rattle.number.specs.Steps.{lead_of, leads_of}
use Rattle.number.specs.declared.Lead.{Lead}
use Rattle.number.proofs.take_leads.Goals as goal

stays : (k : ℕ) (l : Lead) (s : List ℕ) → l ≡ lead_of l (drop l.at s) → l ≡ leads_of k l s
unfolding leads_of
stays zero l s e = refl
stays (suc k) l s e = stays k l s e ∙ ap (λ m. leads_of k m s) e

pub returns-in_default-clause-taken : goal.returns-in_default-clause-taken
returns-in_default-clause-taken c = stays 3 c.args.from c.args.s.now c.in_default.ensures.taken

pub returns-in_default-take_lead-clause-taken : goal.returns-in_default-take_lead-clause-taken
unfolding leads_of
returns-in_default-take_lead-clause-taken c =
    let s = c.args.s.now in
    stays 2 c.in-Some.one s c.in_default-take_lead.ensures.taken ∙ ap (λ m. leads_of 2 m s) c.in-Some.ensures.taken

pub returns-clause-taken : goal.returns-clause-taken
unfolding leads_of
returns-clause-taken c =
    let s = c.args.s.now in
    c.unwrap_or.ensures
    ∙ c.take_lead-3.ensures.taken
    ∙ ap (λ (m : Lead). lead_of m (drop m.at s))
    (c.in-Some-take_lead.ensures.taken ∙ ap (λ (m : Lead). lead_of m (drop m.at s)) c.in-Some.ensures.taken)
