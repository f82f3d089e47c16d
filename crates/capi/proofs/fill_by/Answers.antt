-- The engine has the records of a value that the profile accepts.
use mathlib.Core.Path.{ap, ◌∙◌}
use Rattle.esr.specs.declared.Answer.{Answer}
use Rattle.strict.proofs.Engine.{profile_refuses, profile_accepts}
use Rattle.std.specs.Prelude.{Result}
use Rattle.refusals.specs.Refusals.{checked}
use Rattle.refusals.specs.declared.Refusal.{Refusal}
use Rattle.capi.specs.Words.{judged_filling}
use Rattle.capi.proofs.Laws.{judged-decodes}
use Rattle.capi.proofs.fill_by.Goals as goal

pub returns : goal.returns
returns c =
    let a = c.args in
    c.fill.ensures
    ∙ ap (λ (r : Result Unit Refusal). judged_filling r a.esr a.slots.now) c.check.ensures
    ∙ ap (λ (r : Answer). judged_filling (checked r.refusal) a.esr a.slots.now) c.decode_by-answer.ensures
    ∙ judged-decodes a.profile a.esr _ (profile_refuses a.profile a.esr) (profile_accepts a.profile a.esr) a.slots.now
