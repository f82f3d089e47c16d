-- The entry's own numbers, its refusal in numbers, and the length of its body; it is refused just where it is judged
-- so.
use Prim.Native.Nat.{ℕ}
use mathlib.Core.List.{List}
use mathlib.Core.Path.{◌≡◌, sym, ap, ◌∙◌}
use Rattle.entry.proofs.Laws.{facts, from-facts, entry-sound, entry-refused}
use Rattle.entry.specs.Entries.{Part, entry_of, judged}
use Rattle.refusals.specs.Refusals.{bare}
use Rattle.walk.proofs.Laws.{by-sound}
use Rattle.capi.specs.Answers.{entry_answer, refusal_in}
use Rattle.capi.proofs.esr_read_entry.Goals as goal

refusal_told : (s : List ℕ) → refusal_in (entry_of s) ≡ bare (judged s)
refusal_told s =
    by-sound s (λ free. ap refusal_in (entry-sound s free) ∙ ap bare (sym (from-facts s (facts s free))))
    (λ bad. ap refusal_in (entry-refused s bad))

pub returns : goal.returns
unfolding entry_answer
returns c =
    simp (
      c.number.ensures,
      c.body_start.ensures,
      ap (λ (p : Part). p.bytes) c.entry_body-body.ensures,
      c.unwrap_or-numbers.ensures,
      c.unwrap_or-refusal.ensures,
      c.err.ensures.value,
      c.read_entry-read.ensures,
      refusal_told c.args.block.now,
    )
