-- The engine's records are those of every profile that accepts a value, and a profile that refuses one has no records: by the tests of the strict answer.
use mathlib.Core.Bool.{Bool, true, false, cond, not, ◌&&◌}
use mathlib.Core.Path.{◌≡◌, refl}
use Prim.Native.Nat.{ℕ}
use borrow.Author.Tests.{eqb-false}
use Rattle.refusals.specs.Refusals.{passed, refusal_number}
use Rattle.refusals.specs.declared.Refusal.{Refusal}
use Rattle.records.specs.Sets.{list_of}
use Rattle.engine.specs.Engine.{readings}
use Rattle.esr.specs.Decode.{accepted, answer_of, refused}
use Rattle.esr.specs.declared.Answer.{Answer}
use Rattle.esr.proofs.Engine.{answer-refuses, answer-accepts}
use Rattle.strict.specs.Strict.{answer_by, first_refusal, strict_answer_of}
use Rattle.strict.specs.declared.Profile.{Profile}
use Rattle.strict.specs.declared.Profile.TheVariants.{Ordinary, Strict, Nested}

-- an answer is a refusal without records, or what the engine reads
abbrev Known : ℕ → Answer → Type 0
Known esr a = ((refusal_number a.refusal ≡ 0 → ⊥) → refused a.refusal ≡ a) × (refusal_number a.refusal ≡ 0 → accepted (readings esr) ≡ a)

ordinary-known : (esr : ℕ) → Known esr (answer_of esr)
ordinary-known esr = (answer-refuses esr, answer-accepts esr)

strict-known : (nested : Bool) (esr : ℕ) → Known esr (strict_answer_of nested esr)
unfolding strict_answer_of refused
strict-known nested esr =
    let own : Refusal = first_refusal nested (list_of (answer_of esr).records) in
    by own (passed (answer_of esr).refusal) (passed own) refl
  where
    refusing : (f : Refusal) → passed f ≡ false → Known esr (refused f)
    refusing f e = (λ h. refl, λ z. absurd (eqb-false (refusal_number f) 0 e z))

    by : (f : Refusal) (p q : Bool) → passed f ≡ q → Known esr (cond (p && not q) (refused f) (answer_of esr))
    by f true true e = ordinary-known esr
    by f true false e = refusing f e
    by f false q e = ordinary-known esr

profile_known : (profile : Profile) (esr : ℕ) → Known esr (answer_by profile esr)
profile_known Ordinary esr = ordinary-known esr
profile_known Strict esr = strict-known false esr
profile_known Nested esr = strict-known true esr

pub profile_refuses : (profile : Profile) (esr : ℕ) → (refusal_number (answer_by profile esr).refusal ≡ 0 → ⊥) → refused (answer_by profile esr).refusal ≡ answer_by profile esr
profile_refuses profile esr = (profile_known profile esr).0

pub profile_accepts : (profile : Profile) (esr : ℕ) → refusal_number (answer_by profile esr).refusal ≡ 0 → accepted (readings esr) ≡ answer_by profile esr
profile_accepts profile esr = (profile_known profile esr).1
