-- `esr walk`: what is said of a fault block, byte for byte.
use Rattle.std.specs.Prelude.{ℕ, ◌*◌, cond, List, ◌++◌, length, get_or, drop}
use Rattle.buffer.specs.InOrder.{in_order}
use Rattle.entry.specs.declared.Entry.{Entry}
use Rattle.refusals.specs.Refusals.{passed}
use Rattle.reply_lines.specs.Lines.{refusal_line}
use Rattle.strict.specs.declared.Profile.{Profile}
use Rattle.walk.specs.Walks.{decoded_in, end_offset, end_refusal, entries_of, entry_size, steps_in, walk_refusal}
use Rattle.walk_lines.specs.Lines.{count_line, end_line, entry_line, step_line}

-- an entry, and the step that follows it; the last one has none, and a place past the steps counts as 0
unfoldable pub lines_at : Profile → List ℕ → ℕ → Entry → List ℕ
lines_at profile steps i e = entry_line profile (entry_size * i) e ++ step_line (get_or steps i 0)

-- as many places as the steps of any block take
abbrev pub step_room : ℕ
step_room = 5040

unfoldable pub walk_reply : Profile → List ℕ → List ℕ
walk_reply profile block =
    cond (passed (walk_refusal block step_room))
    (in_order (lines_at profile (steps_in block)) (entries_of block)
    ++ count_line (length (entries_of block)) (decoded_in profile (entries_of block))
    ++ end_line (length block) (end_offset block) (end_refusal (drop (end_offset block) block)))
    (refusal_line (walk_refusal block step_room))
