-- By the tests of the definition: no name's code, no message's, and a text that is not empty.
use mathlib.Core.Bool.{not, true≢false}
use mathlib.Core.Path.{sym, ap, ◌∙◌}
use Prim.Native.Nat.{ℕ}
use borrow.Author.Tests.{lt-leb}
use lib.Dec.{eqb}
use Rattle.sheets.proofs.Theorems.{no_name, no_words, by_length}
use Rattle.sheets.proofs.is_told.Goals.{then-code-ge-BIT_FIRST, else-code-ge-BIT_FIRST}
use Rattle.sheets.proofs.is_told.Goals as goal

pub returns-then-not-is_message : goal.returns-then-not-is_message
returns-then-not-is_message c = elim c.if-code-ge-BIT_FIRST.branch [
  | then-code-ge-BIT_FIRST w ↦
      let free = sym (w.value-is ∙ ap not w.is_message.ensures) ∙ c.if-not-is_message.true in
      ap (λ (n : ℕ). not (eqb n 0)) c.length_of.ensures
      ∙ sym (by_length c.args.code w.if-code-ge-BIT_FIRST.true free)
  | else-code-ge-BIT_FIRST w ↦
      let below = lt-leb 128 c.args.code w.if-code-ge-BIT_FIRST.false in
      absurd (true≢false (sym c.if-not-is_message.true ∙ w.value-is ∙ below))
]

pub returns-else-not-is_message : goal.returns-else-not-is_message
returns-else-not-is_message c = elim c.if-code-ge-BIT_FIRST.branch [
  | then-code-ge-BIT_FIRST w ↦
      let told = sym (w.value-is ∙ ap not w.is_message.ensures) ∙ c.if-not-is_message.false in
      c.if-not-is_message.false ∙ sym (no_words c.args.code told)
  | else-code-ge-BIT_FIRST w ↦
      c.if-not-is_message.false ∙ sym (no_name c.args.code w.if-code-ge-BIT_FIRST.false)
]
