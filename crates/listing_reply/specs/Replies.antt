-- `esr`: what is said of one line of the input, byte for byte.
use Rattle.std.specs.Prelude.{ℕ, cond, List, [], ◌++◌, eqb}
use Rattle.display.specs.Listings.{listing, listing_with}
use Rattle.number.specs.declared.Number.{Number}
use Rattle.phrases.specs.Sheets.{both_sound, judged_both, text_in}
use Rattle.records.specs.Sets.{list_of}
use Rattle.refusals.specs.Refusals.{bare, passed}
use Rattle.reply_lines.specs.Lines.{number_line, refusal_line}
use Rattle.strict.specs.Strict.{answer_by}
use Rattle.strict.specs.declared.Profile.{Profile}
use Rattle.texts.specs.Pool.{bytes, bytes_at}

-- the listing of a value, read ordinarily or strictly (#110), or its refusal in words
unfoldable pub listed : Profile → ℕ → List ℕ
listed profile esr =
    cond (passed (answer_by profile esr).refusal)
    (listing bytes_at (list_of (answer_by profile esr).records))
    (refusal_line (answer_by profile esr).refusal)

-- The line before it names the value, or where the line holds no number, the line by its number among the lines. The only line has no name; its
-- number is 0.
unfoldable pub name_line : ℕ → Number → List ℕ
name_line line n =
    cond (eqb line 0) [] (cond (passed n.refusal) (number_line (bytes "> 0x") 16 n.value) (number_line (bytes "> line ") 10 line))

unfoldable pub listing_reply : Profile → ℕ → Number → List ℕ
listing_reply profile line n = name_line line n ++ cond (passed n.refusal) (listed profile n.value) (refusal_line n.refusal)

-- #112: with the texts of two sheets, whose refusals "stand after the decode refusals"
unfoldable pub listed_with : Profile → List ℕ → List ℕ → ℕ → List ℕ
listed_with profile workshop standard esr =
    cond (passed (answer_by profile esr).refusal)
    (cond (both_sound workshop standard)
    (listing_with bytes_at (text_in workshop standard) (list_of (answer_by profile esr).records))
    (refusal_line (bare (judged_both workshop standard))))
    (refusal_line (answer_by profile esr).refusal)

unfoldable pub listing_with_reply : Profile → ℕ → Number → List ℕ → List ℕ → List ℕ
listing_with_reply profile line n workshop standard =
    name_line line n ++ cond (passed n.refusal) (listed_with profile workshop standard n.value) (refusal_line n.refusal)
