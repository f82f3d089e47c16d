-- `esr entry`: what is said of one flash entry, byte for byte.
use Rattle.std.specs.Prelude.{ℕ, List, ◌++◌, Result, Ok, Err}
use Rattle.entry.specs.Entries.{entry_of, body_of}
use Rattle.entry.specs.declared.Entry.{Entry}
use Rattle.listing_reply.specs.Replies.{listed}
use Rattle.record_lines.specs.Lines.{body_line}
use Rattle.refusals.specs.declared.Refusal.{Refusal}
use Rattle.reply_lines.specs.Lines.{number_line, refusal_line}
use Rattle.strict.specs.declared.Profile.{Profile}
use Rattle.texts.specs.Pool.{bytes}

-- sequence, ESR, body and the listing of the ESR, read ordinarily or strictly (#110)
unfoldable pub entry_text : Profile → ℕ → ℕ → List ℕ → List ℕ
entry_text profile sequence esr body =
    number_line (bytes "sequence ") 10 sequence ++ number_line (bytes "esr 0x") 16 esr ++ body_line body ++ listed profile esr

-- or the entry's refusal
unfoldable pub told : Profile → List ℕ → Result Entry Refusal → List ℕ
told profile body (Ok e) = entry_text profile e.sequence e.esr body
told profile body (Err f) = refusal_line f

unfoldable pub entry_reply : Profile → List ℕ → List ℕ
entry_reply profile block = told profile (body_of block) (entry_of block)
