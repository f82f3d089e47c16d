-- What each public function promises. A promise takes what comes in, then what comes out.
use Rattle.std.specs.Prelude.{ℕ, List, map, ◌≡◌, Result}
use Rattle.refusals.specs.Refusals.{checked}
use Rattle.refusals.specs.declared.Refusal.{Refusal}
use Rattle.records.specs.Sets.{records_of}
use Rattle.records.specs.declared.Record.{Record}
use Rattle.records.specs.declared.Records.{Records}
use Rattle.engine.specs.Engine.{judgement, readings}
use Rattle.engine.specs.Words.{words_of, putting}

abbrev pub Judged : ℕ → Result Unit Refusal → Type 0
Judged esr r = r ≡ checked (judgement esr)

-- the records of a value, whether it is refused or not
abbrev pub Walked : ℕ → Records → Type 0
Walked esr r = r ≡ records_of (readings esr)

-- a record as two words
abbrev pub Words : Record → List ℕ → Type 0
Words item r = r ≡ words_of item

-- the records of a value as words, whether it is refused or not, in the front of the lent slots where they have room there; how many they are
abbrev pub Put : ℕ × List (List ℕ) → ℕ × List (List ℕ) → Type 0
Put (esr, before) r = r ≡ putting (map words_of (readings esr)) before
