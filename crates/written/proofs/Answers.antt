-- The outcome of each public function by the tests that the code makes, in its order.
use mathlib.Core.Path.{◌≡◌, sym, ◌∙◌}
use mathlib.Core.Bool.{true, false}
use Prim.Native.Nat.{ℕ, ◌^◌, ◌<◌}
use native.Mathlib.Omega.{arith}
use borrow.Author.Tests.{eq-eqb, ne_eqb}
use lib.ListN.{length}
use Rattle.texts.specs.Pool.{describes}
use Rattle.texts.specs.Rules.{message}
use Rattle.refusals.specs.Refusals.{bare}
use Rattle.refusals.specs.declared.Reason.TheVariants.{BadField}
use Rattle.strings.specs.Fields.{string_text}
use Rattle.strings.specs.Messages.{message_text}
use Rattle.strings.specs.declared.Form.{Form}
use Rattle.strings.specs.declared.Form.TheVariants.{Value, Binary}
use Rattle.strings.proofs.Cases.{value-small, binary_small, message-unnamed}
use Rattle.strings.proofs.Messages.{has-message}
use Rattle.written.specs.Outcomes.{refused, text}
use Rattle.written.specs.Requested.{fits, value_string, binary_string, string_of, names_field, message_of}
use Rattle.written.proofs.Widths.{width_small}

-- Fields, whichever of the two strings.

pub string_no : (form : Form) (width value : ℕ) → fits width value ≡ false → string_of form width value ≡ refused (bare BadField)
unfolding value_string binary_string
string_no Value width value h = rw h
string_no Binary width value h = rw h

pub string_yes : (form : Form) (width value : ℕ) → fits width value ≡ true → string_of form width value ≡ text (string_text form width value)
unfolding value_string binary_string
string_yes Value width value h = rw h
string_yes Binary width value h = rw h

pub string_small : (form : Form) (width value : ℕ) → fits width value ≡ true → length (string_text form width value) < 2 ^ 64
string_small Value width value h = value-small width value (omega (arith, width_small width value h))
string_small Binary width value h = binary_small width value (omega (arith, width_small width value h))

-- Messages.

module _ (number carried start width : ℕ) where
  pub message_no : describes message.number number ≡ false → message_of number carried start width ≡ refused (bare BadField)
  unfolding message_of
  message_no h = rw (sym (has-message number) ∙ h)

  module _ (has : describes message.number number ≡ true) where
    -- 2 to 7, whatever the bits are
    pub message-other : (number ≡ 1 → ⊥) → message_of number carried start width ≡ text (message_text number carried 0 0)
    unfolding message_of
    message-other h = rw (sym (has-message number) ∙ has, ne_eqb number 1 h, message-unnamed number carried start width h)

    pub message_badly : number ≡ 1 → names_field start width carried ≡ false → message_of number carried start width ≡ refused (bare BadField)
    unfolding message_of
    message_badly h n = rw (sym (has-message number) ∙ has, eq-eqb number 1 h, n)

    pub message-named : number ≡ 1 → names_field start width carried ≡ true
        → message_of number carried start width ≡ text (message_text number carried start width)
    unfolding message_of
    message-named h n = rw (sym (has-message number) ∙ has, eq-eqb number 1 h, n)
