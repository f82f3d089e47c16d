-- What each public function promises: of what comes in and what a lent buffer holds before, the answer and what the
-- buffer holds after.
use Rattle.std.specs.Prelude.{ℕ, Bool, List, ◌≡◌, Result}
use Rattle.refusals.specs.declared.Refusal.{Refusal}
use Rattle.sheets.specs.Standard.{is_records, standard_sheet}
use Rattle.written.specs.Outcomes.{Answers, text}

-- whether a record can have the text of a code
abbrev pub IsRecords : ℕ → Bool → Type 0
IsRecords code r = r ≡ is_records code

abbrev pub StandardSheet : List ℕ → Result ℕ Refusal × List ℕ → Type 0
StandardSheet before out = Answers (text standard_sheet) before out
