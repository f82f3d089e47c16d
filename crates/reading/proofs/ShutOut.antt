-- The decoders that 01 shuts out by name ("What a promise has to decide") meet no promise of decode: two accepted values are enough.
use Rattle.std.proofs.Common.{◌≡◌, ℕ, suc, ◌^◌, ◌<◌, [], ◌∷◌, map, length, sym, refl, ap, ◌∙◌, arith}
use Rattle.records.specs.Bits.{field_of}
use Rattle.records.specs.Kinds.{kind_of}
use Rattle.records.specs.Rows.{record_of, meets, refusal_of}
use Rattle.records.specs.Sets.{records_of}
use Rattle.records.specs.declared.Record.{Record}
use Rattle.records.specs.declared.Records.{Records}
use Rattle.refusals.specs.Refusals.{no_refusal}
use Rattle.records.proofs.Laws.{same-list}
use Rattle.tables.specs.Applying.{passes, rows_for, checks_for}
use Rattle.tables.specs.Tables.{top_rows, layouts, res0, hvc}
use Rattle.esr.specs.Decode.{first_failure, refused, accepted, failure_for, table_answer, class_answer, answer_of}
use Rattle.esr.specs.declared.Answer.{Answer}
use Rattle.reading.specs.Leaves.{leaves, added_up}
use Rattle.reading.specs.ReadAs.{ReadAs, Decoder}
use Rattle.reading.proofs.Leaves.{leaves-sum}
use Rattle.reading.proofs.Outcome.{rows_of, Rows, reading-rows}
use Rattle.reading.proofs.Reading.{accepted-read}

zero-accepted : (answer_of 0).refusal ≡ no_refusal
unfolding answer_of class_answer table_answer failure_for first_failure rows_for checks_for layouts res0 passes meets refusal_of kind_of field_of accepted refused
zero-accepted = refl

call_accepted : (answer_of 0x56000001).refusal ≡ no_refusal
unfolding answer_of class_answer table_answer failure_for first_failure rows_for checks_for layouts hvc passes meets refusal_of kind_of field_of accepted refused
call_accepted = refl

module _ (d : ℕ → Answer) (fulfils : Decoder d) where
  accepts : (esr : ℕ) → esr < 2 ^ 64 → (answer_of esr).refusal ≡ no_refusal → (d esr).refusal ≡ no_refusal
  accepts esr small h = ap (λ (a : Answer). a.refusal) (fulfils esr small) ∙ h

  -- No decoder refuses all.
  pub not_all_refused : ((esr : ℕ) → esr < 2 ^ 64 → (d esr).refusal ≡ no_refusal → ⊥) → ⊥
  not_all_refused h = h 0 (omega arith) (accepts 0 (omega arith) zero-accepted)

  -- No decoder answers the same fields always: their sum would be two values.
  pub not_always_same : (s : Records) → ((esr : ℕ) → esr < 2 ^ 64 → (d esr).refusal ≡ no_refusal → (d esr).records ≡ s) → ⊥
  not_always_same s h =
      let a : _ = accepts 0 (omega arith) zero-accepted in
      let b : _ = accepts 0x56000001 (omega arith) call_accepted in
      let x : added_up (leaves s) ≡ 0 =
      ap (λ (t : Records). added_up (leaves t)) (sym (h 0 (omega arith) a)) ∙ leaves-sum 0 (d 0) (fulfils 0 (omega arith)) a (omega arith) in
      let y : added_up (leaves s) ≡ 0x56000001 =
      ap (λ (t : Records). added_up (leaves t)) (sym (h 0x56000001 (omega arith) b))
      ∙ leaves-sum 0x56000001 (d 0x56000001) (fulfils 0x56000001 (omega arith)) b (omega arith) in
      omega arith

  -- No decoder answers one field, of 64 bits or of any: the rows of the tables are more.
  pub not_one_field : (esr : ℕ) → esr < 2 ^ 64 → (d esr).refusal ≡ no_refusal → (x : Record) → (d esr).records ≡ records_of (x ∷ []) → ⊥
  unfolding top_rows
  not_one_field esr small h x e =
      let t : ReadAs esr (d esr) = accepted-read esr (d esr) (fulfils esr small) h in
      let l : x ∷ [] ≡ t.list = same-list (x ∷ []) t.list (sym e ∙ t.records) in
      let k : Rows esr t.list = reading-rows esr t.list t.reading in
      let n : 1 ≡ suc (suc (suc (suc (suc (length (map (record_of esr) (rows_of k.layout esr))))))) = ap length (l ∙ k.list) in
      omega arith
