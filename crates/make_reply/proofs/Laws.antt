-- What the definitions give under the tests that the code made.
use Prim.Native.Nat.{ℕ}
use mathlib.Core.List.{List, ◌++◌}
use mathlib.Core.Path.{◌≡◌, ap}
use lib.ListN.{length}
use borrow.Author.Tests.{eq-eqb, ne_eqb}
use Rattle.digits.specs.Digits.{numeral}
use Rattle.layout_sets.specs.Outcomes.{outcome_of, sets}
use Rattle.layouts.specs.Layouts.{empty, layout_number}
use Rattle.make_lines.specs.Help.{sets_text}
use Rattle.make_reasons.specs.Reasons.{no_layout, too_wide}
use Rattle.make_reply.specs.Replies.{help_text, reason_line, unmade}
use Rattle.refusals.specs.Refusals.{carrying, reason_number, refusal_number}
use Rattle.refusals.specs.declared.Refusal.{Refusal}
use Rattle.refusals.proofs.Theorems.{one-reason}
use Rattle.std.specs.Prelude.{Option, unwrap_or}
use lib.Dec.{eqb}
use Rattle.refusals.specs.declared.Reason.TheVariants.{InvalidEc, NoLayout, WideLeaf}
use Rattle.reply_lines.specs.Lines.{refusal_line}
use Rattle.texts.specs.Pool.{bytes, description_of}
use Rattle.texts.specs.Rules.{class_name}

module _ (class il iss2 : ℕ) (leaves : List ℕ) (f : Refusal) (k : Option ℕ) where
  pub said-layout : f.reason ≡ NoLayout → unmade class il iss2 leaves f k ≡ reason_line f (no_layout class (layout_number class) (length leaves))
  unfolding unmade
  said-layout h = rw (eq-eqb (refusal_number f) 21 (ap reason_number h))

  pub said_wide : f.reason ≡ WideLeaf
      → unmade class il iss2 leaves f k ≡ reason_line f (too_wide il iss2 (layout_number class) (outcome_of (unwrap_or k sets)) leaves)
  unfolding unmade
  said_wide h = rw (ap (λ (n : ℕ). eqb n 21) (ap reason_number h), ap (λ (n : ℕ). eqb n 22) (ap reason_number h))

  pub said-other : (f.reason ≡ NoLayout → ⊥) → (f.reason ≡ WideLeaf → ⊥) → unmade class il iss2 leaves f k ≡ refusal_line f
  unfolding unmade
  said-other a b =
      rw (
        ne_eqb (refusal_number f) 21 (λ e. a (one-reason f.reason NoLayout e)),
        ne_eqb (refusal_number f) 22 (λ e. b (one-reason f.reason WideLeaf e)),
      )

module _ (class n : ℕ) (is : n ≡ layout_number class) where
  pub help_refused : n ≡ empty → help_text class ≡ refusal_line (carrying InvalidEc class)
  unfolding help_text
  help_refused h = rw (← is, eq-eqb n empty h)

  pub help_sets : (n ≡ empty → ⊥)
      → help_text class
      ≡ bytes "class 0x" ++ numeral 16 class ++ bytes ": " ++ bytes (description_of class_name.number class) ++ bytes "\nIL, 1 bit; ISS2, 5 bits; then\n" ++ sets_text n
  unfolding help_text
  help_sets h = rw (← is, ne_eqb n empty h)
