-- The texts by cases, and how long each is.
use mathlib.Core.Path.{◌≡◌, refl}
use mathlib.Core.Bool.{Bool, true, false, cond}
use mathlib.Core.List.{List, [], ◌++◌, append-nil}
use Prim.Native.Nat.{ℕ, ◌+◌, ◌/◌, ◌^◌, ◌≤◌, ◌<◌}
use native.Mathlib.Omega.{arith}
use borrow.Author.Tests.{eq-eqb, ne_eqb, eqb-true, eqb-false}
use lib.Dec.{eqb}
use lib.ListN.{length, length-append}
use Rattle.texts.specs.Pool.{bytes, bytes_at, text_code}
use Rattle.texts.specs.Rules.{message, message_end}
use Rattle.texts.proofs.Laws.{text-described, text-short}
use Rattle.buffer.specs.Lent.{Lent}
use Rattle.buffer.proofs.Lent.{lent-text}
use Rattle.digits.specs.Digits.{digits_of, numeral}
use Rattle.strings.specs.Fields.{value_text, binary_text, binary_suffix, field_text}
use Rattle.strings.specs.Messages.{bits_text, message_text, message_in}
use Rattle.digits.proofs.Numerals.{length_digits, unpadded-few}

-- how long the fixed words are
words : (length (bytes "0x") ≡ 2) × (length (bytes " ") ≡ 1)
unfolding bytes
words = (refl, refl)

-- A field.

module _ (w v : ℕ) where
  pub value_true : w ≡ 1 → v ≡ 1 → value_text w v ≡ bytes "true"
  unfolding value_text
  value_true a b = rw (eq-eqb w 1 a, eq-eqb v 1 b)

  pub value_false : w ≡ 1 → (v ≡ 1 → ⊥) → value_text w v ≡ bytes "false"
  unfolding value_text
  value_false a b = rw (eq-eqb w 1 a, ne_eqb v 1 b)

  pub value_wide : (w ≡ 1 → ⊥) → value_text w v ≡ bytes "0x" ++ digits_of 16 ((w + 3) / 4) v
  unfolding value_text
  value_wide a = rw (ne_eqb w 1 a)

  length_true : w ≡ 1 → v ≡ 1 → length (value_text w v) ≡ 4
  unfolding bytes
  length_true a b = rw (value_true a b)

  length_false : w ≡ 1 → (v ≡ 1 → ⊥) → length (value_text w v) ≡ 5
  unfolding bytes
  length_false a b = rw (value_false a b)

  length_wide : (w ≡ 1 → ⊥) → length (value_text w v) ≡ 2 + (w + 3) / 4
  unfolding bytes
  length_wide a = rw (value_wide a, length-append, length_digits)

  length_binary : length (binary_text w v) ≡ 2 + w
  unfolding binary_text bytes
  length_binary = rw (length-append, length_digits)

  suffix_bit : w ≡ 1 → binary_suffix w v ≡ []
  unfolding binary_suffix
  suffix_bit a = rw (eq-eqb w 1 a)

  suffix_wide : (w ≡ 1 → ⊥) → binary_suffix w v ≡ bytes " " ++ binary_text w v
  unfolding binary_suffix
  suffix_wide a = rw (ne_eqb w 1 a)

  pub field-bit : w ≡ 1 → field_text w v ≡ value_text w v
  unfolding field_text
  field-bit a = rw (suffix_bit a) (append-nil (value_text w v))

  pub field_wide : (w ≡ 1 → ⊥) → field_text w v ≡ value_text w v ++ (bytes " " ++ binary_text w v)
  unfolding field_text
  field_wide a = rw (suffix_wide a)

  length_suffix : (w ≡ 1 → ⊥) → length (binary_suffix w v) ≡ 3 + w
  length_suffix a = rw (suffix_wide a, length-append, length_binary) (omega (arith, words))

  length-field : length (field_text w v) ≡ length (value_text w v) + length (binary_suffix w v)
  unfolding field_text
  length-field = length-append (value_text w v) (binary_suffix w v)

  -- at most "false"; wider, what the width says
  pub field-most : length (field_text w v) ≤ cond (eqb w 1) 5 (2 + (w + 3) / 4 + (3 + w))
  field-most = rw length-field (by_tests (eqb w 1) refl (eqb v 1) refl)
    where
      by_tests : (b : Bool) → eqb w 1 ≡ b → (d : Bool) → eqb v 1 ≡ d
          → length (value_text w v) + length (binary_suffix w v) ≤ cond b 5 (2 + (w + 3) / 4 + (3 + w))
      by_tests true e true f = rw (suffix_bit (eqb-true w 1 e)) (omega (arith, length_true (eqb-true w 1 e) (eqb-true v 1 f)))
      by_tests true e false f = rw (suffix_bit (eqb-true w 1 e)) (omega (arith, length_false (eqb-true w 1 e) (eqb-false v 1 f)))
      by_tests false e d f = omega (arith, length_wide (eqb-false w 1 e), length_suffix (eqb-false w 1 e))

  -- a width of eight bits keeps it short
  pub field-short : w < 256 → length (field_text w v) ≤ 324
  field-short h = by-test (eqb w 1) field-most
    where
      by-test : (b : Bool) → length (field_text w v) ≤ cond b 5 (2 + (w + 3) / 4 + (3 + w)) → length (field_text w v) ≤ 324
      by-test true l = omega arith
      by-test false l = omega arith

  -- each part of it is shorter
  pub value-small : w < 256 → length (value_text w v) < 2 ^ 64
  value-small h = omega (arith, field-short h, length-field)

  pub binary_small : w < 256 → length (binary_text w v) < 2 ^ 64
  binary_small h = omega (arith, length_binary)

-- Messages: of the project's own pool the text is the definition's, and it is short.

-- the bits: of 1 alone
pub bits-named : (number start width : ℕ) → number ≡ 1 → bits_text number start width ≡ numeral 10 start ++ (bytes ".." ++ numeral 10 (start + width))
unfolding bits_text
bits-named number start width h = rw (eq-eqb number 1 h)

pub bits-unnamed : (number start width : ℕ) → (number ≡ 1 → ⊥) → bits_text number start width ≡ []
unfolding bits_text
bits-unnamed number start width h = rw (ne_eqb number 1 h)

bits-few : (number start width : ℕ) → length (bits_text number start width) ≤ 130
unfolding bits_text bytes
bits-few number start width = by-test (eqb number 1)
  where
    by-test : (b : Bool) → length (cond b (numeral 10 start ++ (bytes ".." ++ numeral 10 (start + width))) []) ≤ 130
    by-test true = simp (length-append, length_digits) (omega (arith, unpadded-few 10 start, unpadded-few 10 (start + width)))
    by-test false = omega arith

-- of 2 to 7 the bits do not matter
pub message-unnamed : (number carried start width : ℕ) → (number ≡ 1 → ⊥) → message_text number carried 0 0 ≡ message_text number carried start width
unfolding message_text
message-unnamed number carried start width h = rw (bits-unnamed number start width h, bits-unnamed number 0 0 h)

module _ (number carried start width : ℕ) where
  abbrev front : ℕ
  front = text_code message.number number

  abbrev end : ℕ
  end = text_code message_end.number number

  message-coded : message_text number carried start width ≡ bytes_at front ++ (bytes "0x" ++ (numeral 16 carried ++ (bytes_at end ++ bits_text number start width)))
  unfolding message_text bytes_at
  message-coded = rw (text-described message.number number, text-described message_end.number number)

  pub message-lent : {lent starting : List ℕ} → Lent lent starting → message_in lent starting number carried start width ≡ message_text number carried start width
  unfolding message_in
  message-lent own = rw (lent-text front own, lent-text end own, message-coded)

  pub message-small : length (message_text number carried start width) < 2 ^ 64
  message-small =
      rw message-coded
      (simp (length-append, length_digits) (omega (arith, words, text-short front, text-short end, unpadded-few 16 carried, bits-few number start width)))
