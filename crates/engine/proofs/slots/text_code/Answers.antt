-- The rule's first code and the value, where the rule has a text for it; rules and values are few.
use mathlib.Core.Path.{◌≡◌, sym, ap, ◌∙◌}
use mathlib.Core.Bool.{Bool, true, false, cond}
use Prim.Native.Nat.{ℕ, ◌+◌, ◌<◌}
use native.Mathlib.Omega.{arith}
use Rattle.promise.proofs.Tests.{is_true}
use Rattle.texts.specs.Pool.{describes, first_of, text_code}
use Rattle.lookup.specs.Descriptions.{numbers_of}
use Rattle.lookup.proofs.Numbers.{describes-small, first_le}
use Rattle.engine.proofs.slots.text_code.Goals as goal

first : (r : ℕ) {f : ℕ} → f ≡ (numbers_of r).1 → f ≡ first_of r
unfolding numbers_of
first r e = e

pub overflow_add-result : goal.overflow_add-result
overflow_add-result c =
    let a = c.args in
    let small : a.value < 64 = describes-small a.rule a.value
    (is_true (sym c.describes.ensures ∙ c.if-describes.true)) in
    omega (arith, first a.rule c.first_text.ensures, first_le a.rule)

pub returns-then-describes : goal.returns-then-describes
unfolding text_code
returns-then-describes c =
    let a = c.args in
    let is : describes a.rule a.value ≡ true = sym c.describes.ensures ∙ c.if-describes.true in
    let small : a.value < 64 = describes-small a.rule a.value (is_true is) in (
      ap (λ (n : ℕ). n + a.value) (first a.rule c.first_text.ensures)
          ∙ sym (ap (λ (b : Bool). cond b (first_of a.rule + a.value) 0) is),
      omega (arith, first a.rule c.first_text.ensures, first_le a.rule),
    )

pub returns : goal.returns
unfolding text_code
returns c =
    let a = c.args in
    let is : describes a.rule a.value ≡ false = sym c.describes.ensures ∙ c.if-describes.false in
    (sym (ap (λ (b : Bool). cond b (first_of a.rule + a.value) 0) is), omega arith)
