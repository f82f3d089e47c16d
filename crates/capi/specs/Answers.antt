-- What C gets: a refusal as 01's number of it, what it carries, and the start and width of the field that it names; the numbers of an answer beside them.
use Rattle.std.specs.Prelude.{ℕ, List, cond, length, Result, Ok, Err, Option, Some, None, replicate}
use Rattle.std.specs.Option.{unwrap_or}
use Rattle.std.specs.Result.{result_err, result_unwrap_or}
use Rattle.entry.specs.Entries.{entry_of, body_of, body_start}
use Rattle.entry.specs.declared.Entry.{Entry}
use Rattle.number.specs.Rest.{read_of, whole_of}
use Rattle.number.specs.declared.NumberRead.{NumberRead}
use Rattle.phrases.specs.Sheets.{both_sound, judged_both, find_in}
use Rattle.phrases.specs.declared.Found.{Found}
use Rattle.phrases.specs.declared.Sheet.{Sheet}
use Rattle.phrases.specs.declared.Sheet.TheVariants.{Workshop, Standard}
use Rattle.refusals.specs.Refusals.{bare, refusal_number, no_refusal}
use Rattle.refusals.specs.declared.Refusal.{Refusal}
use Rattle.survey.specs.Surveys.{ordinary_of}
use Rattle.survey.specs.declared.Tally.{Tally}
use Rattle.capi.specs.declared.EntryAnswer.{EntryAnswer}
use Rattle.capi.specs.declared.Filled.{Filled}
use Rattle.capi.specs.declared.NumberAnswer.{NumberAnswer}
use Rattle.capi.specs.declared.PhraseAnswer.{PhraseAnswer}
use Rattle.capi.specs.declared.ReadAnswer.{ReadAnswer}
use Rattle.capi.specs.declared.SurveyAnswer.{SurveyAnswer}
use Rattle.capi.specs.declared.WalkAnswer.{WalkAnswer}
use Rattle.walk.specs.declared.Walked.{Walked}

-- the number of a refusal, 0 where nothing is refused; what it carries; the field that it names; how many slots or bytes are filled
abbrev pub filled_of : Refusal → ℕ → Filled
filled_of f count = record { carried = f.carries; count = count; refusal = refusal_number f; start = f.start; width = f.width }

unfoldable pub number_answer : List ℕ → NumberAnswer
number_answer s =
    record {
      value = (whole_of s).value;
      carried = (whole_of s).refusal.carries;
      refusal = refusal_number (whole_of s).refusal;
      start = (whole_of s).refusal.start;
      width = (whole_of s).refusal.width;
    }

-- "a refusal still takes 0 bytes", and has the value 0
abbrev pub read_by : Result NumberRead Refusal → ReadAnswer
read_by (Ok n) = record { value = n.value; carried = 0; taken = n.taken; refusal = 0; start = 0; width = 0 }
read_by (Err f) =
    record { value = 0; carried = f.carries; taken = 0; refusal = refusal_number f; start = f.start; width = f.width }

unfoldable pub read_answer : List ℕ → ReadAnswer
read_answer s = read_by (read_of s)

-- what is refused, if anything is, and the numbers beside it, which are 0 on a refusal
abbrev pub refusal_in : {A : Type 0} → Result A Refusal → Refusal
refusal_in r = unwrap_or (result_err r) no_refusal

abbrev pub entry_numbers : Result Entry Refusal → Entry
entry_numbers r = result_unwrap_or r (record { esr = 0; sequence = 0 })

abbrev pub walk_numbers : Result Walked Refusal → Walked
walk_numbers r = result_unwrap_or r (record { entries = 0; decoded = 0; offset = 0; ended = None })

-- the offset of the body is counted from the start of the block
unfoldable pub entry_answer : List ℕ → EntryAnswer
entry_answer s =
    record {
      esr = (entry_numbers (entry_of s)).esr;
      carried = (refusal_in (entry_of s)).carries;
      body = body_start s;
      length = length (body_of s);
      sequence = (entry_numbers (entry_of s)).sequence;
      refusal = refusal_number (refusal_in (entry_of s));
      start = (refusal_in (entry_of s)).start;
      width = (refusal_in (entry_of s)).width;
    }

-- the answer of a walk; the refusal of the bad entry that ended it is told by its number, 0 where none did
unfoldable pub walk_answer : Result Walked Refusal → WalkAnswer
walk_answer r =
    record {
      carried = (refusal_in r).carries;
      entries = (walk_numbers r).entries;
      decoded = (walk_numbers r).decoded;
      offset = (walk_numbers r).offset;
      ended = refusal_number (unwrap_or (walk_numbers r).ended no_refusal);
      refusal = refusal_number (refusal_in r);
      start = (refusal_in r).start;
      width = (refusal_in r).width;
    }

-- a refusal has the value 0
abbrev pub make_answer : Result ℕ Refusal → NumberAnswer
make_answer (Ok v) = record { value = v; carried = 0; refusal = 0; start = 0; width = 0 }
make_answer (Err f) =
    record { value = 0; carried = f.carries; refusal = refusal_number f; start = f.start; width = f.width }

abbrev pub survey_answer : Result Tally Refusal → SurveyAnswer
survey_answer (Ok t) = record { carried = 0; refused = ordinary_of t; refusal = 0; start = 0; width = 0 }
survey_answer (Err f) =
    record {
      carried = f.carries;
      refused = replicate 7 0;
      refusal = refusal_number f;
      start = f.start;
      width = f.width;
    }

-- where a phrase lies, beside the refusal of the sheets. Of the sheet that has it C is told a number: 1 is the workshop's,
-- 2 the standard one, 0 neither
abbrev pub sheet_number : Sheet → ℕ
sheet_number Workshop = 1
sheet_number Standard = 2

abbrev pub place_answer : Refusal → ℕ → ℕ → ℕ → PhraseAnswer
place_answer f start count sheet =
    record {
      carried = f.carries;
      offset = start;
      length = count;
      sheet = sheet;
      refusal = refusal_number f;
      start = f.start;
      width = f.width;
    }

abbrev pub phrase_answer : Refusal → Option Found → PhraseAnswer
phrase_answer f (Some p) = place_answer f p.start p.count (sheet_number p.sheet)
phrase_answer f None = place_answer f 0 0 0

-- of sheets that are refused, nowhere
unfoldable pub phrase_of : List ℕ → List ℕ → ℕ → PhraseAnswer
phrase_of workshop standard code =
    phrase_answer (bare (judged_both workshop standard))
    (cond (both_sound workshop standard) (find_in workshop standard code) None)
