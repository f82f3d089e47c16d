-- What each public function promises. A promise takes what comes in, then what comes out.
use Rattle.std.specs.Prelude.{ℕ, Bool, [], ◌≡◌, eqb}
use Rattle.records.specs.Bits.{field_of}
use Rattle.refusals.specs.declared.Refusal.{Refusal}
use Rattle.records.specs.Kinds.{kind_of, mark_of, mark_number}
use Rattle.records.specs.Rows.{record_of, meets, refusal_of}
use Rattle.records.specs.Sets.{records_of, record_at}
use Rattle.records.specs.declared.Mark.{Mark}
use Rattle.records.specs.declared.Record.{Record}
use Rattle.records.specs.declared.Records.{Records}
use Rattle.records.specs.declared.Row.{Row}

-- any start and width: bits past 63 are 0, and so is a field of no width
abbrev pub Field : ℕ × ℕ × ℕ → ℕ → Type 0
Field (v, start, width) r = r ≡ field_of v start width

abbrev pub AsBit : ℕ × ℕ → Bool → Type 0
AsBit (v, position) r = r ≡ eqb (field_of v position 1) 1

abbrev pub Number : Mark → ℕ → Type 0
Number mark r = r ≡ mark_number mark

abbrev pub Marked : ℕ → Mark → Type 0
Marked kind r = r ≡ mark_of (kind_of kind)

abbrev pub Got : Row × ℕ → Record → Type 0
Got (row, v) r = r ≡ record_of v row

-- whether a row's field of a value is as the row asks, and what the row answers where it is not
abbrev pub Meets : Row × ℕ → Bool → Type 0
Meets (row, v) r = r ≡ meets v row

abbrev pub Refused : Row × ℕ → Refusal → Type 0
Refused (row, v) r = r ≡ refusal_of v row

abbrev pub Emptied : Unit {0} → Records → Type 0
Emptied i r = r ≡ records_of []

abbrev pub At : Records × ℕ → Record → Type 0
At (set, index) r = r ≡ record_at set index
