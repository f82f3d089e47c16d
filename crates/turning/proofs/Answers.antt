-- #114 of answers: what the decoder's promise allows of accepted values are the records of their readings; and a profile that accepts answers as the decoder does.
use mathlib.Core.Path.{◌≡◌, sym, ap, ◌∙◌, subst}
use mathlib.Core.Bool.{true, false}
use Prim.Native.Nat.{ℕ}
use Rattle.refusals.specs.Refusals.{no_refusal}
use Rattle.records.specs.Sets.{list_of}
use Rattle.records.specs.declared.Row.{Row}
use Rattle.records.proofs.Laws.{list-of}
use Rattle.esr.specs.Promises.{Decoded}
use Rattle.esr.specs.declared.Answer.{Answer}
use Rattle.reading.specs.Reading.{Reading}
use Rattle.reading.specs.ReadAs.{ReadAs}
use Rattle.reading.proofs.Reading.{accepted-read}
use Rattle.strict.specs.Promises.{DecodedBy}
use Rattle.strict.specs.declared.Profile.{Profile}
use Rattle.strict.specs.declared.Profile.TheVariants.{Ordinary, Strict, Nested}
use Rattle.strict_reading.proofs.Theorems.{accepted-same}
use Rattle.turning.specs.Turning.{bits_of, DifferInside, Unnamed, OneTurned}
use Rattle.turning.proofs.Turned.{others-stand}

-- the records of an answer that accepts are a reading
answer-reading : (v : ℕ) (r : Answer) → Decoded v r → r.refusal ≡ no_refusal → Reading v (list_of r.records)
answer-reading v r d h =
    let a : ReadAs v r = accepted-read v r d h in
    subst (Reading v) (sym (ap list_of a.records ∙ list-of a.list)) a.reading

-- a profile that accepts answers as the decoder does
as_decoded : (profile : Profile) (v : ℕ) (r : Answer) → DecodedBy (profile, v) r → r.refusal ≡ no_refusal → Decoded v r
as_decoded Ordinary v r d h = d
as_decoded Strict v r d h = accepted-same false v r d h
as_decoded Nested v r d h = accepted-same true v r d h

module _ {v w : ℕ} {row : Row} (u : Unnamed v row) (d : DifferInside (bits_of row) v w) (r s : Answer) (a : r.refusal ≡ no_refusal) (b : s.refusal ≡ no_refusal) where
  -- Of any two answers that the promise of decode allows: both engines have it.
  pub answers-stand : Decoded v r → Decoded w s → OneTurned row v w (list_of r.records) (list_of s.records)
  answers-stand j k = others-stand u d (answer-reading v r j a) (answer-reading w s k b)

  -- Of any two that the promise of a profile allows.
  pub profiles_stand : (p q : Profile) → DecodedBy (p, v) r → DecodedBy (q, w) s → OneTurned row v w (list_of r.records) (list_of s.records)
  profiles_stand p q j k = answers-stand (as_decoded p v r j a) (as_decoded q w s k b)
