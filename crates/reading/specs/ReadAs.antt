-- What an answer of the decoder tells of its value.
use Rattle.std.specs.Prelude.{◌≡◌, ℕ, ◌^◌, ◌<◌, List}
use Rattle.records.specs.Sets.{records_of}
use Rattle.records.specs.declared.Record.{Record}
use Rattle.esr.specs.Promises.{Decoded}
use Rattle.esr.specs.declared.Answer.{Answer}
use Rattle.reading.specs.Reading.{Reading}

-- the records of the answer are a reading of the value
pub record ReadAs (esr : ℕ) (r : Answer) : Type 0 where
  pub list : List Record
  pub reading : Reading esr list
  pub records : r.records ≡ records_of list

-- a decoder: whatever gives an answer that the promise of decode allows, at every value of 64 bits
abbrev pub Decoder : (ℕ → Answer) → Type 0
Decoder d = (esr : ℕ) → esr < 2 ^ 64 → Decoded esr (d esr)
