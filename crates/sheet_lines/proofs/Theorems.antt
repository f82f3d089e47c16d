-- A line is read back: a code of the standard sheet in decimal, a space and any text of at most 255 bytes are that phrase. That the code is read is
-- computed for every code, whatever the text.
use Prim.Native.Nat.{ℕ, ◌+◌, ◌-◌, ◌≤◌}
use mathlib.Core.Bool.{Bool, true, false, ◌&&◌}
use mathlib.Core.List.{List, ◌++◌, append_assoc}
use mathlib.Core.Path.{◌≡◌, sym, ap, ap₂, subst, ◌∙◌}
use native.Mathlib.Nat.{zero-add}
use native.Mathlib.Omega.{arith}
use borrow.Author.Tests.{lt-ltb, le-ltb}
use lib.Dec.{T, eqb, eqb→eq}
use lib.ListN.{length, drop, length-append}
use lib.Seq.{drop_at}
use Rattle.digits.specs.Digits.{digit_char, digits_of, enough, numeral, unpadded}
use Rattle.number.specs.Digits.{digit_of}
use Rattle.number.specs.Numbers.{read_digit, read_digits, starts_with, number_in, number_of}
use Rattle.number.specs.Rest.{is_stop, before_stop, read_of}
use Rattle.promise.proofs.Tests.{both_left, both_right, from, from_at}
use Rattle.number.specs.declared.NumberRead.{NumberRead}
use Rattle.refusals.specs.declared.Refusal.{Refusal}
use Rattle.std.specs.Prelude.{Result, Ok, Err}
use Rattle.sheets.specs.Standard.{is_records}
use Rattle.sheets.proofs.Theorems.{records-small}
use Rattle.texts.specs.Pool.{bytes}
use Rattle.sheet_lines.specs.Lines.{text_start, taken_of}

-- a line of a code and a text
abbrev pub line_of : ℕ → List ℕ → List ℕ
line_of code text = numeral 10 code ++ (bytes " " ++ text)

-- the code is read, and its numeral taken
abbrev is_code : ℕ → Result NumberRead Refusal → Bool
is_code code (Ok n) = eqb n.value code && eqb n.taken (length (numeral 10 code))
is_code code (Err f) = false

abbrev reads : List ℕ → ℕ → Bool
reads text code = is_code code (read_of (line_of code text))

all_read : (text : List ℕ) → T (from (reads text) 0 597)
unfolding read_of before_stop is_stop number_of number_in read_digits read_digit starts_with digit_of digits_of digit_char unpadded enough bytes
all_read text = tt

module _ (code least : ℕ) (text : List ℕ) (there : is_records code ≡ true) (rises : least ≤ code) (short : length text ≤ 255) where
  read : T (reads text code)
  read = subst (λ (k : ℕ). T (reads text k)) (zero-add code) (from_at (reads text) 0 597 code (all_read text) (records-small code there))

  back : (r : Result NumberRead Refusal) → T (is_code code r) → r ≡ Ok (record { value = code; taken = length (numeral 10 code) })
  back (Ok n) t =
      ap₂ (λ (v k : ℕ). Ok (record { value = v; taken = k }))
      (eqb→eq n.value code (both_left (eqb n.value code) _ t))
      (eqb→eq n.taken (length (numeral 10 code)) (both_right (eqb n.value code) _ t))
  back (Err f) t = absurd t

  read_back : read_of (line_of code text) ≡ Ok (record { value = code; taken = length (numeral 10 code) })
  read_back = back (read_of (line_of code text)) read

  long : length (line_of code text) ≡ length (numeral 10 code) + 1 + length text
  unfolding bytes
  long = omega (arith, length-append (numeral 10 code) (bytes " " ++ text))

  starts : text_start (line_of code text) (length (numeral 10 code)) ≡ length (numeral 10 code) + 1
  starts = rw (lt-ltb (length (numeral 10 code)) (length (line_of code text)) (omega (arith, long)))

  pub line-back : taken_of (line_of code text) least ≡ Ok (record { start = length (numeral 10 code) + 1; code = code })
  unfolding taken_of
  line-back =
      let left : length (line_of code text) - (length (numeral 10 code) + 1) ≤ 255 = omega (arith, long) in
      rw (read_back, there, le-ltb code least rises, starts, le-ltb 255 (length (line_of code text) - (length (numeral 10 code) + 1)) left)

  -- and what stands from there on is the text
  pub text-back : drop (length (numeral 10 code) + 1) (line_of code text) ≡ text
  unfolding bytes
  text-back =
      let e : length (numeral 10 code ++ bytes " ") ≡ length (numeral 10 code) + 1 = omega (arith, length-append (numeral 10 code) (bytes " ")) in
      ap (drop (length (numeral 10 code) + 1)) (sym (append_assoc (numeral 10 code) (bytes " ") text)) ∙ drop_at (numeral 10 code ++ bytes " ") text (length (numeral 10 code) + 1) e
