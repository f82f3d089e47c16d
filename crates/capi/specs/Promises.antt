-- What each public function promises. A promise takes what comes in, with what a lent array holds at entry, then what comes out, with what it
-- holds at exit.
use Rattle.std.specs.Prelude.{ℕ, List, ◌≡◌, Result}
use Rattle.listing.specs.Requested.{record_line, listing_of, listing_with_of}
use Rattle.maker.specs.Promises.{Makes}
use Rattle.refusals.specs.declared.Refusal.{Refusal}
use Rattle.sheets.specs.Standard.{standard_sheet}
use Rattle.written.specs.Outcomes.{text}
use Rattle.written.specs.Requested.{value_string, binary_string, message_of}
use Rattle.strict.specs.declared.Profile.TheVariants.{Ordinary}
use Rattle.survey.specs.Surveys.{survey_of}
use Rattle.texts.specs.Pool.{bytes_at}
use Rattle.capi.specs.Answers.{number_answer, read_answer, entry_answer, make_answer, phrase_of, survey_answer, walk_answer}
use Rattle.capi.specs.Buffers.{filling, filled_with}
use Rattle.capi.specs.Words.{decoding, strict_of}
use Rattle.capi.specs.declared.EntryAnswer.{EntryAnswer}
use Rattle.capi.specs.declared.Filled.{Filled}
use Rattle.capi.specs.declared.NumberAnswer.{NumberAnswer}
use Rattle.capi.specs.declared.PhraseAnswer.{PhraseAnswer}
use Rattle.capi.specs.declared.ReadAnswer.{ReadAnswer}
use Rattle.capi.specs.declared.SurveyAnswer.{SurveyAnswer}
use Rattle.capi.specs.declared.WalkAnswer.{WalkAnswer}
use Rattle.walk.specs.Walks.{walking}

-- the records of a value in the front of the caller's slots
abbrev pub RecordsFilled : ℕ × List (List ℕ) → Filled × List (List ℕ) → Type 0
RecordsFilled (esr, before) r = r ≡ decoding Ordinary esr before

-- the same, read strictly (#110): on a core without nested virtualisation where the number that says so is 0, else on one with it
abbrev pub StrictlyFilled : ℕ × ℕ × List (List ℕ) → Filled × List (List ℕ) → Type 0
StrictlyFilled (esr, nested, before) r = r ≡ decoding (strict_of nested) esr before

-- the text of a code in the front of the caller's buffer; a code that no text has gives none
abbrev pub TextFilled : ℕ × List ℕ → Filled × List ℕ → Type 0
TextFilled (code, before) r = r ≡ filling (bytes_at code) before

-- a field's two value strings
abbrev pub ValueFilled : ℕ × ℕ × List ℕ → Filled × List ℕ → Type 0
ValueFilled (width, value, before) r = r ≡ filled_with (value_string width value) before

abbrev pub BinaryFilled : ℕ × ℕ × List ℕ → Filled × List ℕ → Type 0
BinaryFilled (width, value, before) r = r ≡ filled_with (binary_string width value) before

-- a refusal's message
abbrev pub MessageFilled : ℕ × ℕ × ℕ × ℕ × List ℕ → Filled × List ℕ → Type 0
MessageFilled (number, carried, start, width, before) r = r ≡ filled_with (message_of number carried start width) before

-- the line of one record of a value, and the listing of all
abbrev pub LineFilled : ℕ × ℕ × List ℕ → Filled × List ℕ → Type 0
LineFilled (esr, index, before) r = r ≡ filled_with (record_line esr index) before

abbrev pub ListingFilled : ℕ × List ℕ → Filled × List ℕ → Type 0
ListingFilled (esr, before) r = r ≡ filled_with (listing_of esr) before

-- the same with the texts of two sheets
abbrev pub ListingWithFilled : ℕ × List ℕ × List ℕ × List ℕ → Filled × List ℕ → Type 0
ListingWithFilled (esr, workshop, standard, before) r = r ≡ filled_with (listing_with_of esr workshop standard) before

-- the standard sheet
abbrev pub SheetFilled : List ℕ → Filled × List ℕ → Type 0
SheetFilled before r = r ≡ filled_with (text standard_sheet) before

-- where the phrase of a code lies in two sheets
abbrev pub PhraseAnswered : List ℕ × List ℕ × ℕ → PhraseAnswer → Type 0
PhraseAnswered (workshop, standard, code) r = r ≡ phrase_of workshop standard code

-- the number of a whole input
abbrev pub NumberAnswered : List ℕ → NumberAnswer → Type 0
NumberAnswered s r = r ≡ number_answer s

-- the number at the front of an input, and how many bytes it took
abbrev pub ReadAnswered : List ℕ → ReadAnswer → Type 0
ReadAnswered s r = r ≡ read_answer s

-- the numbers of an entry, and the offset of its body in the block
abbrev pub EntryAnswered : List ℕ → EntryAnswer → Type 0
EntryAnswered s r = r ≡ entry_answer s

-- the walk over a block, and the caller's run afterwards: the steps in its front, or as it was
abbrev pub WalkAnswered : List ℕ × List ℕ → WalkAnswer × List ℕ → Type 0
WalkAnswered (block, before) r = r ≡ (walk_answer (walking Ordinary block before).0, (walking Ordinary block before).1)

-- the value of a class, an IL, an ISS2 and a list of leaf values: what the maker makes of them
abbrev pub MakeAnswered : ℕ × ℕ × ℕ × List ℕ → NumberAnswer → Type 0
MakeAnswered (class, il, iss2, leaves) r = (m : Result ℕ Refusal) × Makes (class, il, iss2, leaves) m × (r ≡ make_answer m)

-- the counts of a run of values, those by class in the caller's table
abbrev pub SurveyAnswered : List ℕ × List ℕ → SurveyAnswer × List ℕ → Type 0
SurveyAnswered (values, before) r = r ≡ (survey_answer (survey_of Ordinary values before).0, (survey_of Ordinary values before).1)
