-- The sheet of lines: a front and the phrases that lines added are the sheet of these phrases; a line of a code and a text adds that phrase; and a sheet can count the phrases
-- of all codes, which is computed.
use Prim.Native.Nat.{ℕ, ◌+◌, ◌*◌, ◌≤◌}
use mathlib.Core.Bool.{true}
use mathlib.Core.List.{List, ◌++◌}
use mathlib.Core.Path.{◌≡◌}
use borrow.Author.Tests.{le-ltb}
use lib.Dec.{T, leb}
use lib.ListN.{length}
use Rattle.phrases.specs.Writing.{phrase_bytes, phrases_bytes, sheet_bytes}
use Rattle.sheet_lines.proofs.Theorems.{line_of, line-back, text-back}
use Rattle.sheet_lines.specs.Lines.{taken_of}
use Rattle.std.specs.Prelude.{Ok}
use Rattle.sheets.specs.Standard.{is_message, is_records, phrase_at, phrases_at, standard_phrases}
use Rattle.registers.specs.Registers.{registers}
use Rattle.texts.specs.Names.{names}
use Rattle.texts.specs.Rules.{rules}
use Rattle.texts.specs.Pool.{codes_of, first_of, texts, described, by_value, text_in, text_at, bytes, bytes_at}
use Rattle.sheet_reply.specs.Replies.{adds, head_bytes}

pub head_sheet : (ps : List (ℕ × List ℕ)) → length (phrases_bytes ps) ≤ 65534 → head_bytes (length (phrases_bytes ps)) ++ phrases_bytes ps ≡ sheet_bytes ps
unfolding head_bytes sheet_bytes
head_sheet ps h = rw (le-ltb 65534 (length (phrases_bytes ps)) h)

pub line-added : (code least : ℕ) (text : List ℕ) → is_records code ≡ true → least ≤ code → length text ≤ 255
    → adds (line_of code text) (taken_of (line_of code text) least) ≡ Ok (phrase_bytes (code, text), code + 1)
line-added code least text there rises short = rw (line-back code least text there rises short, text-back code least text there rises short)

-- each phrase has at most 258 bytes
pub never_full : T (leb (length standard_phrases * 258) 65534)
unfolding standard_phrases phrases_at phrase_at is_records is_message first_of codes_of rules texts described by_value text_in text_at bytes bytes_at names registers
never_full = tt
