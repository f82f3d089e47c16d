-- What the promises come to, in 02's words: which sheet a phrase comes from, how a missing phrase differs from an empty one, and that bytes past
-- a sheet's length are not read. By cases of what the sheets have.
use Prim.Native.Nat.{ℕ, ◌+◌, ◌-◌, ◌*◌, ◌≤◌, ◌<◌}
use mathlib.Core.Bool.{Bool, true, false}
use mathlib.Core.List.{List, [], ◌++◌}
use mathlib.Core.Path.{◌≡◌, refl, sym, ap, ap₂, ◌∙◌}
use native.Mathlib.Omega.{arith}
use borrow.Author.Tests.{ltb-true, ltb-false, eqb-true, eqb-false}
use lib.Dec.{eqb, ltb}
use lib.ListN.{length, get_or, take, drop, length-append, length-take, length-drop, get_or-append}
use lib.Seq.{take-append-le, drop-append-le}
use Rattle.entry.specs.Entries.{Part}
use Rattle.phrases.specs.Sheets.{word_at, window, body_of, phrases_of, fault, judged, place_of, place_in, first_of, find_in, of_sheet, Text, missing, found, text_of, or_else, text_from, text_in, both_sound, has_phrase, part_found, phrase_in}
use Rattle.phrases.specs.declared.Found.{Found}
use Rattle.phrases.specs.declared.Place.{Place}
use Rattle.std.specs.Prelude.{Option, Some, None as Nothing, IfSome, is_some}
use Rattle.phrases.proofs.Cases.{inside, counted, judged-zero, judged_version, judged_phrases}

-- "the phrase comes from the workshop's sheet if the code is there, otherwise from the standard sheet"

module _ (workshop standard : List ℕ) (code : ℕ) where
  pub from_workshop : (text : List ℕ) → text_from workshop code ≡ found text → text_in workshop standard code ≡ found text
  unfolding text_in or_else
  from_workshop text h = rw h

  pub from_standard : text_from workshop code ≡ missing → text_in workshop standard code ≡ text_from standard code
  unfolding text_in or_else
  from_standard h = rw h

-- What two sheets have under a code, by where it is found: what a listing with sheets writes.

abbrev pub said_by : List ℕ → List ℕ → Option Found → Text
said_by workshop standard (Some f) = found (take f.count (drop f.start (of_sheet workshop standard f.sheet)))
said_by workshop standard Nothing = missing

pub told : (workshop standard : List ℕ) (code : ℕ) → text_in workshop standard code ≡ said_by workshop standard (find_in workshop standard code)
unfolding find_in text_in text_of or_else
told workshop standard code = by (place_in workshop code) (place_in standard code)
  where
    by : (p q : Option Place) → or_else (text_of workshop p) (text_of standard q) ≡ said_by workshop standard (first_of p q)
    by (Some p) q = refl
    by Nothing (Some q) = refl
    by Nothing Nothing = refl

-- "A code in neither gives an empty part and a no, which differs from an empty phrase": of sound sheets, what the two calls answer together.

abbrev is_found : Text → Bool
is_found missing = false
is_found (found t) = true

abbrev bytes_of : Text → List ℕ
bytes_of missing = []
bytes_of (found t) = t

module _ (workshop standard : Part) (code : ℕ) (sound : both_sound workshop.bytes standard.bytes ≡ true) where
  abbrev Both : Text → Type 0
  Both t = (has_phrase workshop.bytes standard.bytes code ≡ is_found t) × ((phrase_in workshop standard code).bytes ≡ bytes_of t)

  pub answer_and_part : Both (text_in workshop.bytes standard.bytes code)
  unfolding has_phrase phrase_in part_found find_in text_in text_of or_else
  answer_and_part = rw sound (by (place_in workshop.bytes code) (place_in standard.bytes code))
    where
      by : (p q : Option Place)
          → let t : Text = or_else (text_of workshop.bytes p) (text_of standard.bytes q) in
          (is_some (first_of p q) ≡ is_found t) × ((part_found workshop standard (first_of p q)).bytes ≡ bytes_of t)
      by (Some p) q = (refl, refl)
      by Nothing (Some q) = (refl, refl)
      by Nothing Nothing = (refl, refl)

-- "Bytes past a sheet's length are not read": a sheet that is as long as it asks says the same with more bytes behind it.

module _ (s more : List ℕ) (whole : 2 + word_at s 0 ≤ length s) where
  same_at : (i : ℕ) → i < length s → get_or (s ++ more) i 0 ≡ get_or s i 0
  same_at i h = get_or-append s more 0 i h

  same_word : word_at (s ++ more) 0 ≡ word_at s 0
  same_word = ap₂ (λ (a b : ℕ). a * 256 + b) (same_at 0 (omega arith)) (same_at 1 (omega arith))

  longer : length s ≤ length (s ++ more)
  longer = omega (arith, length-append s more)

  same_body : body_of (s ++ more) ≡ body_of s
  same_body = rw same_word (by (ltb (length s) 3) refl)
    where
      by : (b : Bool) → ltb (length s) 3 ≡ b → take (2 + word_at s 0 - 3) (drop 3 (s ++ more)) ≡ take (2 + word_at s 0 - 3) (drop 3 s)
      by true e = let none : 2 + word_at s 0 - 3 ≡ 0 = omega (arith, ltb-true (length s) 3 e) in rw none
      by false e =
          let three : 3 ≤ length s = ltb-false (length s) 3 e in
          let inside : 2 + word_at s 0 - 3 ≤ length (drop 3 s) = omega (arith, length-drop 3 s) in
          rw (drop-append-le 3 s more three, take-append-le (2 + word_at s 0 - 3) (drop 3 s) more inside)

  pub unread_place : (code : ℕ) → place_in (s ++ more) code ≡ place_in s code
  unfolding place_in
  unread_place code = ap (λ (b : List ℕ). place_of code (phrases_of 3 b)) same_body

  pub unread_judged : judged (s ++ more) ≡ judged s
  unread_judged = by (eqb n 0) refl (eqb (get_or s 2 0) 1) refl
    where
      n : ℕ
      n = word_at s 0

      by : (a : Bool) → eqb n 0 ≡ a → (b : Bool) → eqb (get_or s 2 0) 1 ≡ b → judged (s ++ more) ≡ judged s
      by true e b d =
          let z : n ≡ 0 = eqb-true n 0 e in
          judged-zero (s ++ more) n (sym same_word) (omega (arith, longer)) z ∙ sym (judged-zero s n refl (omega arith) z)
      by false e true d =
          let some : n ≡ 0 → ⊥ = eqb-false n 0 e in
          let v : get_or s 2 0 ≡ 1 = eqb-true (get_or s 2 0) 1 d in
          judged_phrases (s ++ more) n (sym same_word) (omega (arith, longer)) some (omega (arith, longer)) (same_at 2 (omega arith) ∙ v)
          ∙ ap (λ (b : List ℕ). fault 0 (phrases_of 3 b)) (ap (λ (m : ℕ). window 3 (2 + m) (s ++ more)) (sym same_word) ∙ same_body)
          ∙ sym (judged_phrases s n refl (omega arith) some whole v)
      by false e false d =
          let some : n ≡ 0 → ⊥ = eqb-false n 0 e in
          let v : get_or s 2 0 ≡ 1 → ⊥ = eqb-false (get_or s 2 0) 1 d in
          judged_version (s ++ more) n (sym same_word) (omega (arith, longer)) some (omega (arith, longer)) (λ g. v (sym (same_at 2 (omega arith)) ∙ g))
          ∙ sym (judged_version s n refl (omega arith) some whole v)

  -- so it has the same texts
  pub unread_text : (code : ℕ) → text_from (s ++ more) code ≡ text_from s code
  unfolding text_of
  unread_text code = rw (unread_place code) (by (place_in s code) (inside s code))
    where
      by : (p : Option Place) → IfSome p (λ p. p.start + p.count ≤ length s) → text_of (s ++ more) p ≡ text_of s p
      by Nothing fits = refl
      by (Some p) fits =
          let kept : p.count ≤ length (drop p.start s) = omega (arith, length-drop p.start s) in
          rw (drop-append-le p.start s more (omega arith), take-append-le p.count (drop p.start s) more kept)

-- A text of a sheet of bytes is at most 255 bytes long.

abbrev pub Short : Text → Type 0
Short missing = Unit {0}
Short (found t) = length t ≤ 255

-- a list of bytes, as a lent slice is
abbrev pub Bytes : List ℕ → Type 0
Bytes s = (i : ℕ) → get_or s i 0 < 256

short-from : (s : List ℕ) → Bytes s → (code : ℕ) → Short (text_from s code)
unfolding text_of
short-from s small code = by (place_in s code) (counted s small code)
  where
    by : (p : Option Place) → IfSome p (λ p. p.count < 256) → Short (text_of s p)
    by (Some p) h = omega (arith, length-take p.count (drop p.start s))
    by Nothing h = tt

pub short_in : (workshop standard : List ℕ) → Bytes workshop → Bytes standard → (code : ℕ) → Short (text_in workshop standard code)
unfolding text_in or_else
short_in workshop standard w s code = by (text_from workshop code) (short-from workshop w code)
  where
    by : (t : Text) → Short t → Short (or_else t (text_from standard code))
    by missing h = short-from standard s code
    by (found t) h = h
