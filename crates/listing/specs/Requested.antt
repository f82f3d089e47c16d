-- What is asked for by each public function, of its inputs alone: the refusals in 01's order, or the text. "Decode refusals come before 13; 12
-- and 13 come before 11."
use Rattle.std.specs.Prelude.{ℕ, cond, List, ltb, length, get_or}
use Rattle.refusals.specs.Refusals.{bare, carrying, passed}
use Rattle.refusals.specs.declared.Reason.TheVariants.{BadIndex}
use Rattle.records.specs.Sets.{no_record, list_of}
use Rattle.records.specs.declared.Record.{Record}
use Rattle.esr.specs.Decode.{answer_of}
use Rattle.display.specs.Listings.{line_text, listing, listing_with}
use Rattle.phrases.specs.Sheets.{both_sound, judged_both, text_in}
use Rattle.texts.specs.Pool.{bytes_at}
use Rattle.written.specs.Outcomes.{Outcome, refused, text}

unfoldable pub line_in : List Record → ℕ → Outcome
line_in rs index = cond (ltb index (length rs)) (text (line_text bytes_at (get_or rs index no_record))) (refused (carrying BadIndex (length rs)))

unfoldable pub record_line : ℕ → ℕ → Outcome
record_line esr index =
    cond (passed (answer_of esr).refusal) (line_in (list_of (answer_of esr).records) index) (refused (answer_of esr).refusal)

unfoldable pub listing_of : ℕ → Outcome
listing_of esr =
    cond (passed (answer_of esr).refusal) (text (listing bytes_at (list_of (answer_of esr).records))) (refused (answer_of esr).refusal)

-- #112: with the texts of two sheets. "In a listing they stand after the decode refusals", and before 11
unfoldable pub listing_with_of : ℕ → List ℕ → List ℕ → Outcome
listing_with_of esr workshop standard =
    cond (passed (answer_of esr).refusal)
    (cond (both_sound workshop standard)
    (text (listing_with bytes_at (text_in workshop standard) (list_of (answer_of esr).records)))
    (refused (bare (judged_both workshop standard))))
    (refused (answer_of esr).refusal)
