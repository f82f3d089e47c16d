-- An entry whose writing was torn is refused: a half of all ones sets bits 37..64, or makes a class that no layout serves.
use Rattle.std.proofs.Common.{◌≡◌, ℕ, suc, ◌^◌, ◌<◌, Bool, true, false, cond, ◌⊎◌, List, ◌∷◌, ◌++◌, length, sym, refl, ap, ◌∙◌, inl, inr, zero-add, arith, ne_eqb}
use Rattle.refusals.specs.Refusals.{refusal_number, carrying, reserved_bits}
use Rattle.refusals.specs.declared.Reason.TheVariants.{InvalidEc}
use Rattle.records.specs.Bits.{field_of}
use Rattle.records.specs.Kinds.{kind_of}
use Rattle.records.specs.Rows.{meets, refusal_of}
use Rattle.tables.specs.Tables.{reserved, layouts}
use Rattle.esr.specs.Decode.{refused, class_of, class_answer, answer_of}
use Rattle.esr.specs.Promises.{Decoded}
use Rattle.esr.specs.declared.Answer.{Answer}
use Rattle.entry.specs.Entries.{entry_bytes}
use Rattle.strict.specs.Strict.{answer_by}
use Rattle.strict.specs.declared.Profile.{Profile}
use Rattle.strict.proofs.Laws.{refused-alike}
use Rattle.walk.proofs.Theorems.{read_as, one-read}
use Rattle.walk.specs.Walks.{decoded_in, entries_of}
use Rattle.reading.specs.Reading.{HasBits}
use Rattle.reading.proofs.HasBits.{bits_is, part, inner}
use Rattle.reading.proofs.Reading.{refused-is}

-- A value whose upper half is all ones is refused with number 1, naming 37..64 and carrying all its ones, whatever its lower half is.
pub torn_upper : (esr : ℕ) (r : Answer) → Decoded esr r → HasBits esr 32 32 0xFFFFFFFF → r.refusal ≡ reserved_bits 37 27 0x7FFFFFF
unfolding answer_of meets refusal_of field_of kind_of
torn_upper esr r d o = refused-is r (reserved_bits 37 27 0x7FFFFFF) (d ∙ rw bits refl)
  where
    bits : field_of esr 37 27 ≡ 0x7FFFFFF
    bits = sym (part 32 32 esr 5 27 (omega arith)) ∙ ap (λ (x : ℕ). field_of x 5 27) (sym (bits_is o))

-- A value whose lower half is all ones is refused with number 1 or with number 2, whatever its upper half is.
pub torn_lower : (esr : ℕ) (r : Answer) → Decoded esr r → HasBits esr 0 32 0xFFFFFFFF → (refusal_number r.refusal ≡ 1) ⊎ (refusal_number r.refusal ≡ 2)
unfolding answer_of refusal_of field_of class_answer layouts kind_of
torn_lower esr r d o = by (meets esr reserved) refl
  where
    class-is : class_of esr ≡ 63
    class-is = sym (inner 32 esr 26 6 (omega arith)) ∙ ap (λ (x : ℕ). field_of x 26 6) (sym (bits_is o))

    unserved : class_answer layouts esr ≡ refused (carrying InvalidEc (class_of esr))
    unserved = rw class-is refl

    by : (b : Bool) → meets esr reserved ≡ b → (refusal_number r.refusal ≡ 1) ⊎ (refusal_number r.refusal ≡ 2)
    by true e = inr (ap refusal_number (refused-is r (carrying InvalidEc (class_of esr)) (d ∙ ap (λ (b : Bool). cond b (class_answer layouts esr) (refused (refusal_of esr reserved))) e ∙ unserved)))
    by false e = inl (ap refusal_number (refused-is r (refusal_of esr reserved) (d ∙ ap (λ (b : Bool). cond b (class_answer layouts esr) (refused (refusal_of esr reserved))) e)))

-- In a fault block an entry whose value was torn, either half of it, is read and does not decode, ordinarily or strictly (#104, #110): it is counted as an entry
-- and not among those that decode, whatever follows.
module _ (profile : Profile) (sequence esr : ℕ) (rest : List ℕ) (small : sequence < 256 ^ 2) (fits : esr < 256 ^ 8) (torn : HasBits esr 32 32 0xFFFFFFFF ⊎ HasBits esr 0 32 0xFFFFFFFF) where
  torn_refused : HasBits esr 32 32 0xFFFFFFFF ⊎ HasBits esr 0 32 0xFFFFFFFF → refusal_number (answer_of esr).refusal ≡ 0 → ⊥
  torn_refused (inl o) z = omega (arith, sym (ap refusal_number (torn_upper esr (answer_of esr) refl o)) ∙ z)
  torn_refused (inr o) z = by (torn_lower esr (answer_of esr) refl o)
    where
      by : (refusal_number (answer_of esr).refusal ≡ 1) ⊎ (refusal_number (answer_of esr).refusal ≡ 2) → ⊥
      by (inl e) = omega (arith, sym e ∙ z)
      by (inr e) = omega (arith, sym e ∙ z)

  abbrev number : ℕ
  number = refusal_number (answer_by profile esr).refusal

  not_decoded : number ≡ 0 → ⊥
  not_decoded z =
      torn_refused torn (sym (ap (λ (a : Answer). refusal_number a.refusal) (refused-alike profile esr (ne_eqb (refusal_number (answer_of esr).refusal) 0 (torn_refused torn)))) ∙ z)

  pub torn_counted : let block : List ℕ = entry_bytes sequence esr ++ rest in
      (length (entries_of block) ≡ suc (length (entries_of rest))) × (decoded_in profile (entries_of block) ≡ decoded_in profile (entries_of rest))
  unfolding decoded_in
  torn_counted =
      let all : entries_of (entry_bytes sequence esr ++ rest) ≡ read_as (sequence, esr) ∷ entries_of rest = one-read sequence esr rest small fits in
      (ap length all, ap (decoded_in profile) all ∙ rw (ne_eqb number 0 not_decoded) (zero-add (decoded_in profile (entries_of rest))))
