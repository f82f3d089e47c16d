-- What each public function promises. A promise takes what comes in, then what comes out.
use Rattle.std.specs.Prelude.{ℕ, Bool, List, Option, Result, ◌≡◌}
use Rattle.entry.specs.Entries.{Part}
use Rattle.phrases.specs.Sheets.{judged, judged_both, find_in, has_phrase, phrase_in}
use Rattle.phrases.specs.declared.Found.{Found}
use Rattle.refusals.specs.Refusals.{bare, checked}
use Rattle.refusals.specs.declared.Refusal.{Refusal}

-- why a sheet is refused, if it is; of two, the workshop's first
abbrev pub SheetRefusal : List ℕ → Result Unit Refusal → Type 0
SheetRefusal sheet r = r ≡ checked (bare (judged sheet))

abbrev pub SheetsRefusal : List ℕ × List ℕ → Result Unit Refusal → Type 0
SheetsRefusal (workshop, standard) r = r ≡ checked (bare (judged_both workshop standard))

-- where the phrase of a code lies
abbrev pub Finds : List ℕ × List ℕ × ℕ → Option Found → Type 0
Finds (workshop, standard, code) r = r ≡ find_in workshop standard code

-- whether there is a phrase, and the part of a sheet that is handed back: where it lies, and what it holds
abbrev pub HasPhrase : List ℕ × List ℕ × ℕ → Bool → Type 0
HasPhrase (workshop, standard, code) r = r ≡ has_phrase workshop standard code

abbrev pub Phrase : Part × Part × ℕ → Part → Type 0
Phrase (workshop, standard, code) r = r ≡ phrase_in workshop standard code
