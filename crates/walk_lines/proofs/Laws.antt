-- What a step says, by the tests that lead to it.
use Prim.Native.Nat.{ℕ}
use mathlib.Core.List.{[]}
use mathlib.Core.Path.{◌≡◌}
use borrow.Author.Tests.{eq-eqb, ne_eqb}
use Rattle.reply_lines.specs.Lines.{number_line}
use Rattle.texts.specs.Pool.{bytes}
use Rattle.walk_lines.specs.Lines.{step_line}

module _ (n : ℕ) where
  pub step-none : n ≡ 0 → step_line n ≡ []
  unfolding step_line
  step-none h = rw (eq-eqb n 0 h)

  module _ (some : n ≡ 0 → ⊥) where
    pub step_same : n ≡ 65535 → step_line n ≡ bytes "same sequence\n"
    unfolding step_line
    step_same h = rw (ne_eqb n 0 some, eq-eqb n 65535 h)

    pub step_lost : (n ≡ 65535 → ⊥) → step_line n ≡ number_line (bytes "lost ") 10 n
    unfolding step_line
    step_lost h = rw (ne_eqb n 0 some, ne_eqb n 65535 h)
