-- Demand 3: a value is accepted exactly where a reading of it exists, the reading is the answer, and there is no other.
use Rattle.std.proofs.Common.{◌≡◌, ℕ, ◌⊎◌, List, sym, ap, ◌∙◌, subst, inl, inr}
use mathlib.Core.List.{Memᴰ}
use Rattle.refusals.specs.Refusals.{refusal_number, no_refusal}
use Rattle.refusals.specs.declared.Refusal.{Refusal}
use Rattle.records.specs.Sets.{records_of}
use Rattle.records.specs.declared.Record.{Record}
use Rattle.esr.specs.Decode.{refused, accepted}
use Rattle.esr.specs.Promises.{Decoded}
use Rattle.esr.specs.declared.Answer.{Answer}
use Rattle.reading.specs.Reading.{Reading}
use Rattle.reading.specs.Refusing.{refusing, Refusing}
use Rattle.reading.specs.ReadAs.{ReadAs}
use Rattle.reading.proofs.Outcome.{unique, one-refusal, refusing-number, not_zero, not_both, Outcome, read, refuses, outcome}

-- what an answer refuses
pub refused-is : (a : Answer) (f : Refusal) → a ≡ refused f → a.refusal ≡ f
unfolding refused
refused-is a f e = ap (λ (b : Answer). b.refusal) e

accepted-is : (a : Answer) (l : List Record) → a ≡ accepted l → (a.refusal ≡ no_refusal) × (a.records ≡ records_of l)
unfolding accepted
accepted-is a l e = (ap (λ (b : Answer). b.refusal) e, ap (λ (b : Answer). b.records) e)

module _ (esr : ℕ) (r : Answer) (d : Decoded esr r) where
  -- A value of which a reading exists is accepted, and the records of the answer are that reading.
  pub read-accepted : (l : List Record) → Reading esr l → (r.refusal ≡ no_refusal) × (r.records ≡ records_of l)
  read-accepted l k = by (outcome esr)
    where
      by : Outcome esr → (r.refusal ≡ no_refusal) × (r.records ≡ records_of l)
      by (read m j e) = accepted-is r l (d ∙ e ∙ ap accepted (unique esr m l j k))
      by (refuses f j e) = absurd (not_both esr l f k j)

  -- Of a value that is accepted a reading exists, and the records of the answer are that reading.
  pub accepted-read : r.refusal ≡ no_refusal → ReadAs esr r
  accepted-read h = by (outcome esr)
    where
      by : Outcome esr → ReadAs esr r
      by (read l j e) = record { list = l; reading = j; records = (accepted-is r l (d ∙ e)).1 }
      by (refuses f j e) = absurd (not_zero f (refusing-number esr f j) (ap refusal_number (sym (refused-is r f (d ∙ e)) ∙ h)))

  -- A value that has a first failure is refused by it.
  pub refusing-refused : (f : Refusal) → Refusing esr f → r.refusal ≡ f
  refusing-refused f k = by (outcome esr)
    where
      by : Outcome esr → r.refusal ≡ f
      by (read l j e) = absurd (not_both esr l f j k)
      by (refuses g j e) = refused-is r g (d ∙ e) ∙ one-refusal esr g f j k

  -- What a value is refused by is its first failure.
  pub refused-refusing : (r.refusal ≡ no_refusal → ⊥) → Refusing esr r.refusal
  refused-refusing h = by (outcome esr)
    where
      by : Outcome esr → Refusing esr r.refusal
      by (read l j e) = absurd (h (accepted-is r l (d ∙ e)).0)
      by (refuses f j e) = subst (Refusing esr) (sym (refused-is r f (d ∙ e))) j

  -- Every value is accepted, or refused by one of the numbers 1 to 7.
  pub accepted_or_refused : (r.refusal ≡ no_refusal) ⊎ Memᴰ (refusal_number r.refusal) refusing
  accepted_or_refused = by (outcome esr)
    where
      by : Outcome esr → (r.refusal ≡ no_refusal) ⊎ Memᴰ (refusal_number r.refusal) refusing
      by (read l j e) = inl (accepted-is r l (d ∙ e)).0
      by (refuses f j e) = inr (subst (λ (g : Refusal). Memᴰ (refusal_number g) refusing) (sym (refused-is r f (d ∙ e))) (refusing-number esr f j))
