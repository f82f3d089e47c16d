-- The phrases of a part of a sheet, by the tests that the code makes at an offset: a step of the definition, whose count of steps is always
-- enough, read at the sheet's own bytes.
use Prim.Native.Nat.{ℕ, zero, suc, ◌+◌, ◌-◌, ◌*◌, ◌≤◌, ◌<◌}
use mathlib.Core.Bool.{cond}
use mathlib.Core.List.{List, [], ◌∷◌}
use mathlib.Core.Path.{◌≡◌, refl, sym, ap, ap₂, ◌∙◌}
use native.Mathlib.Nat.{add-zero, add_assoc}
use native.Mathlib.Omega.{arith}
use borrow.Author.Tests.{lt-ltb, le-ltb, eq-eqb, ne_eqb}
use lib.Dec.{eqb, ltb}
use lib.ListN.{length, get_or, take, drop, length-take, length-drop}
use lib.Seq.{take-nil, get_or-take, get_or-drop, drop-drop}
use Rattle.phrases.specs.Sheets.{word_at, window, Phrases, ends, phrase, code_in, count_in, phrases_from, phrases_of}
use Rattle.refusals.specs.declared.Reason.TheVariants.{None, ShortSheet, LongPhrase}

-- A part of a sheet.

drop-take : (k n : ℕ) (l : List ℕ) → drop k (take n l) ≡ take (n - k) (drop k l)
drop-take zero n l = let e : n ≡ n - 0 = omega arith in ap (λ (m : ℕ). take m l) e
drop-take (suc k) zero l = let e : 0 ≡ 0 - suc k = omega arith in ap (λ (m : ℕ). take m (drop (suc k) l)) e
drop-take (suc k) (suc n) [] = sym (take-nil (suc n - suc k))
drop-take (suc k) (suc n) (x ∷ xs) = let e : n - k ≡ suc n - suc k = omega arith in drop-take k n xs ∙ ap (λ (m : ℕ). take m (drop k xs)) e

module _ (at end : ℕ) (s : List ℕ) where
  pub window-length : end ≤ length s → length (window at end s) ≡ end - at
  window-length h = omega (arith, length-take (end - at) (drop at s), length-drop at s)

  pub window-at : (i : ℕ) → i < end - at → get_or (window at end s) i 0 ≡ get_or s (at + i) 0
  window-at i h = get_or-take (end - at) (drop at s) i 0 h ∙ get_or-drop at s i 0

  pub window-drop : (k : ℕ) → drop k (window at end s) ≡ window (at + k) end s
  window-drop k =
      let less : end - at - k ≡ end - (at + k) = omega arith in
      drop-take k (end - at) (drop at s)
      ∙ ap₂ (λ (n : ℕ) (l : List ℕ). take n l) less (drop-drop k at s)

-- So many steps as there are bytes are enough.

pub enough : (n m at : ℕ) (rest : List ℕ) → length rest ≤ n → length rest ≤ m → phrases_from n at rest ≡ phrases_from m at rest
unfolding phrases_from
enough zero zero at rest a b = refl
enough zero (suc m) at rest a b = rw (eq-eqb (length rest) 0 (omega arith))
enough (suc n) zero at rest a b = rw (eq-eqb (length rest) 0 (omega arith))
enough (suc n) (suc m) at rest a b =
    ap (λ (ps : Phrases).
    cond (eqb (length rest) 0) (ends None)
    (cond (ltb (length rest) 3) (ends ShortSheet)
    (cond (ltb (length rest) (3 + count_in rest)) (ends LongPhrase)
    (phrase (record { code = code_in rest; start = at + 3; count = count_in rest }) ps))))
    (enough n m (at + 3 + count_in rest) (drop (3 + count_in rest) rest)
    (omega (arith, length-drop (3 + count_in rest) rest)) (omega (arith, length-drop (3 + count_in rest) rest)))

-- One step, by the tests.

step : (at : ℕ) (rest : List ℕ) → 0 < length rest → phrases_of at rest ≡ phrases_from (suc (length rest)) at rest
step at rest h = enough (length rest) (suc (length rest)) at rest (omega arith) (omega arith)

module _ (at : ℕ) (rest : List ℕ) where
  pub none_left : length rest ≡ 0 → phrases_of at rest ≡ ends None
  unfolding phrases_from
  none_left e = ap (λ (n : ℕ). phrases_from n at rest) e

  module _ (some : 0 < length rest) where
    pub short_head : length rest < 3 → phrases_of at rest ≡ ends ShortSheet
    unfolding phrases_from
    short_head h = step at rest some ∙ rw (ne_eqb (length rest) 0 (omega arith), lt-ltb (length rest) 3 h)

    module _ (headed : 3 ≤ length rest) where
      pub long-count : length rest < 3 + count_in rest → phrases_of at rest ≡ ends LongPhrase
      unfolding phrases_from
      long-count h =
          step at rest some
          ∙ rw (ne_eqb (length rest) 0 (omega arith), le-ltb (length rest) 3 headed, lt-ltb (length rest) (3 + count_in rest) h)

      pub one-phrase : 3 + count_in rest ≤ length rest
          → phrases_of at rest
          ≡ phrase (record { code = code_in rest; start = at + 3; count = count_in rest }) (phrases_of (at + 3 + count_in rest) (drop (3 + count_in rest) rest))
      unfolding phrases_from
      one-phrase h =
          step at rest some
          ∙ rw (ne_eqb (length rest) 0 (omega arith), le-ltb (length rest) 3 headed, le-ltb (length rest) (3 + count_in rest) h)
          (ap (phrase (record { code = code_in rest; start = at + 3; count = count_in rest }))
          (enough (length rest) (length (drop (3 + count_in rest) rest)) (at + 3 + count_in rest) (drop (3 + count_in rest) rest)
          (omega (arith, length-drop (3 + count_in rest) rest)) (omega arith)))

-- The same at an offset of a sheet.

module _ (at end : ℕ) (s : List ℕ) (inside : end ≤ length s) where
  pub at-end : end ≤ at → phrases_of at (window at end s) ≡ ends None
  at-end h = none_left at (window at end s) (omega (arith, window-length at end s inside))

  module _ (some : at < end) where
    pub at-short : end - at < 3 → phrases_of at (window at end s) ≡ ends ShortSheet
    at-short h = short_head at (window at end s) (omega (arith, window-length at end s inside)) (omega (arith, window-length at end s inside))

    module _ (headed : 3 ≤ end - at) where
      count_at : count_in (window at end s) ≡ get_or s (at + 2) 0
      count_at = window-at at end s 2 (omega arith)

      code_at : code_in (window at end s) ≡ word_at s at
      code_at =
          ap₂ (λ (a b : ℕ). a * 256 + b) (window-at at end s 0 (omega arith) ∙ ap (λ (i : ℕ). get_or s i 0) (add-zero at)) (window-at at end s 1 (omega arith))

      pub at_long : end < at + 3 + get_or s (at + 2) 0 → phrases_of at (window at end s) ≡ ends LongPhrase
      at_long h =
          let l = window-length at end s inside in
          long-count at (window at end s) (omega (arith, l)) (omega (arith, l)) (omega (arith, l, count_at))

      pub at-phrase : (next : ℕ) → next ≡ at + 3 + get_or s (at + 2) 0 → next ≤ end
          → phrases_of at (window at end s)
          ≡ phrase (record { code = word_at s at; start = at + 3; count = get_or s (at + 2) 0 }) (phrases_of next (window next end s))
      at-phrase next e h =
          let l = window-length at end s inside in
          one-phrase at (window at end s) (omega (arith, l)) (omega (arith, l)) (omega (arith, l, count_at))
          ∙ rw (code_at, count_at, window-drop at end s (3 + get_or s (at + 2) 0), e, add_assoc at 3 (get_or s (at + 2) 0))
