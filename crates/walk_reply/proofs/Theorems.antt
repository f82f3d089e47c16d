-- A block above the limit has the line of refusal 20, and every other is walked: 5,040 places hold the steps of any, so that 11 is never said.
use Prim.Native.Nat.{ℕ, ◌≤◌, ◌<◌}
use mathlib.Core.List.{List, ◌++◌}
use mathlib.Core.Path.{◌≡◌}
use lib.ListN.{length, drop}
use borrow.Author.Tests.{lt-ltb, le-ltb}
use Rattle.buffer.specs.InOrder.{in_order}
use Rattle.refusals.specs.Refusals.{bare}
use Rattle.refusals.specs.declared.Reason.TheVariants.{LongBlock}
use Rattle.reply_lines.specs.Lines.{refusal_line}
use Rattle.strict.specs.declared.Profile.{Profile}
use Rattle.walk.proofs.Theorems.{at_most}
use Rattle.walk.specs.Walks.{decoded_in, end_offset, end_refusal, entries_of, steps_in, walk_refusal}
use Rattle.walk_lines.specs.Lines.{count_line, end_line}
use Rattle.walk_reply.specs.Replies.{lines_at, walk_reply}

pub long-told : (profile : Profile) (s : List ℕ) → 65536 < length s → walk_reply profile s ≡ refusal_line (bare LongBlock)
unfolding walk_reply walk_refusal
long-told profile s h = rw (lt-ltb 65536 (length s) h)

pub others-walked : (profile : Profile) (s : List ℕ) → length s ≤ 65536
    → walk_reply profile s
    ≡ in_order (lines_at profile (steps_in s)) (entries_of s)
    ++ count_line (length (entries_of s)) (decoded_in profile (entries_of s))
    ++ end_line (length s) (end_offset s) (end_refusal (drop (end_offset s) s))
unfolding walk_reply walk_refusal
others-walked profile s h = rw (le-ltb 65536 (length s) h, le-ltb 5040 (length (steps_in s)) (at_most s h).1)
