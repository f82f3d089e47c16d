-- Each promise of this crate decides its answer: it says what the answer is, and what the lent array holds then. That of esr_make is decided as the maker's is.
use mathlib.Core.Path.{sym, ap, ◌∙◌}
use Rattle.capi.specs.Answers.{make_answer}
use Rattle.capi.specs.Promises.{BinaryFilled, RecordsFilled, EntryAnswered, LineFilled, ListingFilled, MakeAnswered, MessageFilled, NumberAnswered, ReadAnswered, StrictlyFilled, SurveyAnswered, TextFilled, ValueFilled, WalkAnswered, ListingWithFilled, PhraseAnswered, SheetFilled}
use Rattle.maker.proofs.Decides.{make_decides}
use Rattle.promise.proofs.Laws.{same}
use Rattle.promise.specs.Promise.{Decides}

pub esr_decode_decides : Decides RecordsFilled
esr_decode_decides (esr, before) a b = same

pub esr_decode_strict_decides : Decides StrictlyFilled
esr_decode_strict_decides (esr, nested, before) a b = same

pub esr_text_decides : Decides TextFilled
esr_text_decides (code, before) a b = same

pub esr_value_string_decides : Decides ValueFilled
esr_value_string_decides (width, value, before) a b = same

pub esr_value_binary_string_decides : Decides BinaryFilled
esr_value_binary_string_decides (width, value, before) a b = same

pub esr_message_decides : Decides MessageFilled
esr_message_decides (number, carried, start, width, before) a b = same

pub esr_record_line_decides : Decides LineFilled
esr_record_line_decides (esr, index, before) a b = same

pub esr_listing_decides : Decides ListingFilled
esr_listing_decides (esr, before) a b = same

pub esr_listing_with_decides : Decides ListingWithFilled
esr_listing_with_decides (esr, workshop, standard, before) a b = same

pub esr_standard_sheet_decides : Decides SheetFilled
esr_standard_sheet_decides before a b = same

pub esr_phrase_decides : Decides PhraseAnswered
esr_phrase_decides (workshop, standard, code) a b = same

pub esr_parse_number_decides : Decides NumberAnswered
esr_parse_number_decides s a b = same

pub esr_read_number_decides : Decides ReadAnswered
esr_read_number_decides s a b = same

pub esr_read_entry_decides : Decides EntryAnswered
esr_read_entry_decides s a b = same

pub esr_walk_decides : Decides WalkAnswered
esr_walk_decides (block, before) a b = same

pub esr_make_decides : Decides MakeAnswered
esr_make_decides (class, il, iss2, leaves) a b p q =
    p.2 ∙ ap make_answer (make_decides (class, il, iss2, leaves) p.0 q.0 p.1 q.1) ∙ sym q.2

pub esr_survey_decides : Decides SurveyAnswered
esr_survey_decides (values, before) a b = same
