-- Every value is counted at one place: that of its class if it is accepted, else that of the number that refuses it, which a value can be refused by.
use Prim.Native.Nat.{ℕ, ◌≤◌, ◌<◌}
use mathlib.Core.Bool.{Bool, false, true, true≢false, ◌&&◌}
use mathlib.Core.List.{Memᴰ}
use mathlib.Core.Logic.{◌⊎◌, inl, inr}
use mathlib.Core.Path.{◌≡◌, refl, sym, ap, ◌∙◌}
use native.Mathlib.Omega.{arith}
use lib.Dec.{eqb, leb, leb→le}
use borrow.Author.Tests.{eqb-false, eqb-true, ne_eqb}
use Rattle.std.specs.Option.{unwrap_or}
use Rattle.std.specs.Prelude.{Option, None, Some}
use Rattle.promise.proofs.Tests.{every_mem}
use Rattle.refusals.specs.Refusals.{no_refusal, refusal_number}
use Rattle.refusals.specs.Values.{value_number, value_place}
use Rattle.refusals.proofs.Laws.{no_zero, one_place, place-small, place-some, place_or_9, zero-unplaced}
use Rattle.records.proofs.Laws.{field_lt}
use Rattle.esr.specs.Decode.{answer_of, class_of}
use Rattle.reading.specs.Refusing.{refusing}
use Rattle.reading.proofs.Reading.{accepted_or_refused}
use Rattle.strict.specs.Strict.{answer_by}
use Rattle.strict.specs.declared.Profile.{Profile}
use Rattle.strict.specs.declared.Profile.TheVariants.{Ordinary}
use Rattle.strict_reading.proofs.Theorems.{refused-listed}
use Rattle.survey.specs.Surveys.{is_of_class, is_refused_at}

module _ (profile : Profile) (esr : ℕ) where
  abbrev pub number_of : ℕ
  number_of = refusal_number (answer_by profile esr).refusal

  pub class-small : class_of esr < 64
  class-small = field_lt esr 26 6

  -- of a value that is accepted
  module _ (h : number_of ≡ 0) where
    pub accepted-class : (q : ℕ) → q < 64 → is_of_class profile q esr ≡ eqb (class_of esr) q
    unfolding is_of_class
    accepted-class q l = ap (λ (n : ℕ). eqb n 0 && eqb (class_of esr) q) h

    pub accepted-number : (q : ℕ) → q < 9 → is_refused_at profile q esr ≡ false
    unfolding is_refused_at
    accepted-number q l = ap (λ (n : ℕ). eqb n (value_number q)) h ∙ no_zero q l

  -- of a value that is refused
  module _ (h : number_of ≡ 0 → ⊥) where
    pub refused-class : (q : ℕ) → q < 64 → is_of_class profile q esr ≡ false
    unfolding is_of_class
    refused-class q l = ap (λ (b : Bool). b && eqb (class_of esr) q) (ne_eqb number_of 0 h)

    pub refused-some : value_place number_of ≡ Some (place_or_9 number_of)
    refused-some = place-some number_of (refused-listed profile esr h)

    pub refused-small : place_or_9 number_of < 9
    refused-small = place-small number_of (refused-listed profile esr h)

    pub refused-place : (q : ℕ) → q < 9 → is_refused_at profile q esr ≡ eqb (place_or_9 number_of) q
    unfolding is_refused_at
    refused-place q l = one_place number_of (refused-listed profile esr h) q l

  -- a value is refused just where its number has a place
  abbrev is_some : Option ℕ → Bool
  is_some None = false
  is_some (Some k) = true

  pub placed-refused : {k : ℕ} → value_place number_of ≡ Some k → (number_of ≡ 0 → ⊥)
  placed-refused e h = true≢false (ap is_some (sym e ∙ ap value_place h ∙ zero-unplaced))

  pub placed-there : {k : ℕ} → value_place number_of ≡ Some k → k ≡ place_or_9 number_of
  placed-there {k} e = sym (ap (λ (o : Option ℕ). unwrap_or o 9) e)

  pub unplaced-accepted : value_place number_of ≡ None → number_of ≡ 0
  unplaced-accepted e = by (eqb number_of 0) refl
    where
      by : (b : Bool) → eqb number_of 0 ≡ b → number_of ≡ 0
      by true f = eqb-true number_of 0 f
      by false f = absurd (true≢false (ap is_some (sym (refused-some (eqb-false number_of 0 f)) ∙ e)))

-- the ordinary decoder refuses by no number above 7
pub ordinary-small : (esr : ℕ) → number_of Ordinary esr ≤ 7
ordinary-small esr = by (accepted_or_refused esr (answer_of esr) refl)
  where
    by : ((answer_of esr).refusal ≡ no_refusal) ⊎ Memᴰ (number_of Ordinary esr) refusing → number_of Ordinary esr ≤ 7
    by (inl e) = omega (arith, ap refusal_number e)
    by (inr m) = leb→le (number_of Ordinary esr) 7 (every_mem (λ (i n : ℕ). leb n 7) (number_of Ordinary esr) 0 refusing tt m).1
