-- What the engine judges is what the ordinary decoder answers.
use mathlib.Core.Path.{refl, ap, ◌∙◌}
use Rattle.std.specs.Prelude.{Result}
use Rattle.refusals.specs.declared.Refusal.{Refusal}
use Rattle.engine.specs.Engine.{judgement}
use Rattle.esr.proofs.Engine.{engine_refuses, engine_accepts}
use Rattle.strict.specs.declared.Profile.TheVariants.{Ordinary}
use Rattle.capi.specs.Words.{judged_filling}
use Rattle.capi.proofs.Laws.{judged-decodes}
use Rattle.capi.proofs.esr_decode.Goals as goal

pub returns : goal.returns
returns c =
    let a = c.args in
    let j = judgement a.esr in
    c.fill.ensures
    ∙ ap (λ (r : Result Unit Refusal). judged_filling r a.esr a.slots.now) c.judge.ensures
    ∙ judged-decodes Ordinary a.esr j (engine_refuses a.esr j refl) (engine_accepts a.esr j refl) a.slots.now
