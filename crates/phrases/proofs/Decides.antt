-- Each promise of this crate decides its answer: it says what the answer is.
use Rattle.phrases.specs.Promises.{Finds, HasPhrase, Phrase, SheetRefusal, SheetsRefusal}
use Rattle.promise.proofs.Laws.{same}
use Rattle.promise.specs.Promise.{Decides}

pub sheet_refusal_decides : Decides SheetRefusal
sheet_refusal_decides sheet a b = same

pub sheets_refusal_decides : Decides SheetsRefusal
sheets_refusal_decides (workshop, standard) a b = same

pub find_decides : Decides Finds
find_decides (workshop, standard, code) a b = same

pub has_phrase_decides : Decides HasPhrase
has_phrase_decides (workshop, standard, code) a b = same

pub phrase_decides : Decides Phrase
phrase_decides (workshop, standard, code) a b = same
