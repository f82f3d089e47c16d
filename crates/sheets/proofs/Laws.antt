-- The phrases of codes in order: they grow by one code's at each turn of a loop, and a phrase is its head and its text. How long all are is computed.
use Prim.Native.Nat.{ℕ, zero, suc, ◌+◌, ◌-◌, ◌/◌, ◌%◌, ◌^◌, ◌≤◌, ◌<◌}
use mathlib.Core.Bool.{true, false}
use mathlib.Core.List.{List, [], ◌∷◌, ◌++◌, append-nil, append_assoc}
use mathlib.Core.Path.{◌≡◌, refl, sym, ap, ◌∙◌}
use native.Mathlib.Nat.{add-zero, add-suc, suc-add}
use native.Mathlib.Omega.{arith}
use lib.Dec.{T, leb, leb→le}
use lib.ListN.{length, get_or}
use Rattle.std.specs.Int.{to_be_bytes, w16}
use Rattle.phrases.specs.Writing.{phrase_bytes, phrases_bytes, sheet_bytes}
use Rattle.registers.specs.Registers.{registers}
use Rattle.sheets.specs.Standard.{is_message, is_records, phrase_at, phrases_at, standard_phrases, standard_sheet}
use Rattle.texts.specs.Names.{names}
use Rattle.texts.specs.Rules.{rules}
use Rattle.texts.specs.Pool.{codes_of, first_of, texts, described, by_value, text_in, text_at, bytes, bytes_at}

-- One code more.

phrases_snoc : (code n : ℕ) → phrases_at code (suc n) ≡ phrases_at code n ++ phrase_at (code + n)
unfolding phrases_at
phrases_snoc code zero = append-nil (phrase_at code) ∙ ap phrase_at (sym (add-zero code))
phrases_snoc code (suc n) =
    ap (λ (l : List (ℕ × List ℕ)). phrase_at code ++ l) (phrases_snoc (suc code) n)
    ∙ sym (append_assoc (phrase_at code) (phrases_at (suc code) n) (phrase_at (suc code + n)))
    ∙ ap (λ (c : ℕ). phrases_at code (suc n) ++ phrase_at c) (suc-add code n ∙ sym (add-suc code n))

bytes-append : (ps qs : List (ℕ × List ℕ)) → phrases_bytes (ps ++ qs) ≡ phrases_bytes ps ++ phrases_bytes qs
unfolding phrases_bytes
bytes-append [] qs = refl
bytes-append (p ∷ ps) qs = ap (λ (l : List ℕ). phrase_bytes p ++ l) (bytes-append ps qs) ∙ sym (append_assoc (phrase_bytes p) (phrases_bytes ps) (phrases_bytes qs))

pub one_more : (code first : ℕ) → first ≤ code → phrases_bytes (phrases_at first (code + 1 - first)) ≡ phrases_bytes (phrases_at first (code - first)) ++ phrases_bytes (phrase_at code)
one_more code first h =
    let n : ℕ = code - first in
    let more : code + 1 - first ≡ suc n = omega arith in
    let here : first + n ≡ code = omega arith in
    rw more (ap phrases_bytes (phrases_snoc first n) ∙ bytes-append (phrases_at first n) (phrase_at (first + n))
    ∙ ap (λ (c : ℕ). phrases_bytes (phrases_at first n) ++ phrases_bytes (phrase_at c)) here)

pub none_yet : (first : ℕ) → phrases_bytes (phrases_at first (first - first)) ≡ []
unfolding phrases_at phrases_bytes
none_yet first = let e : first - first ≡ 0 = omega arith in rw e

-- A phrase, by whether a record can have the text of its code.

module _ (code : ℕ) where
  pub no_text : is_records code ≡ false → phrases_bytes (phrase_at code) ≡ []
  unfolding phrase_at phrases_bytes
  no_text h = rw h

  pub a-text : is_records code ≡ true
      → phrases_bytes (phrase_at code) ≡ (code / 256 ∷ code % 256 ∷ length (bytes_at code) ∷ []) ++ bytes_at code
  unfolding phrase_at phrases_bytes
  a-text h = rw h (append-nil (phrase_bytes (code, bytes_at code)))

-- the two bytes of a number that has no more, by the method that gives them
pub two-bytes : {n : ℕ} {bs : List ℕ} → bs ≡ to_be_bytes w16 n → n < 65536
    → (get_or bs 0 0 ≡ n / 256) × (get_or bs 1 0 ≡ n % 256)
two-bytes e h = rw e (omega arith, refl)

-- What is computed: where the words of messages lie, how many codes there are, and that two bytes count the phrases.

pub firsts : (first_of 45 ≡ 483) × (first_of 48 ≡ 531)
unfolding first_of codes_of rules
firsts = (refl, refl)

pub codes : length texts ≡ 597
unfolding texts described by_value names rules registers
codes = refl

fits : T (leb (length (phrases_bytes standard_phrases)) 65534)
unfolding standard_phrases phrases_at phrase_at is_records is_message phrases_bytes first_of codes_of rules texts described by_value text_in text_at bytes bytes_at names registers
fits = tt

pub phrases_fit : length (phrases_bytes standard_phrases) ≤ 65534
phrases_fit = leb→le (length (phrases_bytes standard_phrases)) 65534 fits

pub sheet-small : length standard_sheet < 2 ^ 64
unfolding standard_sheet sheet_bytes
sheet-small = omega (arith, phrases_fit)
