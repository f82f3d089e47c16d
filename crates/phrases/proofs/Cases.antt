-- What the definitions give under the tests that the code made; and a phrase lies inside its sheet and is counted by a byte, by one induction
-- on the phrases.
use Prim.Native.Nat.{ℕ, zero, suc, ◌+◌, ◌-◌, ◌≤◌, ◌<◌}
use mathlib.Core.Bool.{Bool, true, false, cond, not}
use mathlib.Core.List.{List}
use mathlib.Core.Path.{◌≡◌, refl, ap, subst, ◌∙◌}
use native.Mathlib.Omega.{arith}
use borrow.Author.Tests.{lt-ltb, le-ltb, eq-eqb, ne_eqb, ltb-true, ltb-false}
use lib.Dec.{eqb, ltb}
use lib.ListN.{length, get_or, take, drop, length-take, length-drop, get_or-eq_default}
use lib.Seq.{get_or-take, get_or-drop}
use Rattle.phrases.specs.Sheets.{word_at, body_of, window, Phrase, Phrases, ends, phrase, code_in, count_in, phrases_from, phrases_of, fault, judged, place_of, place_in, first_of, find_in, of_sheet, InSheet}
use Rattle.phrases.specs.declared.Found.{Found}
use Rattle.phrases.specs.declared.Place.{Place}
use Rattle.phrases.specs.declared.Sheet.{Sheet}
use Rattle.phrases.specs.declared.Sheet.TheVariants.{Workshop, Standard}
use Rattle.refusals.specs.Refusals.{bare, checked, passed}
use Rattle.refusals.specs.declared.Reason.{Reason}
use Rattle.refusals.specs.declared.Reason.TheVariants.{None, ShortSheet, BadSheetVersion, LongPhrase}
use Rattle.refusals.specs.declared.Refusal.{Refusal}
use Rattle.refusals.proofs.Cases.{passed-is, refused-is}
use Rattle.std.specs.Prelude.{Option, Some, None as Nothing, IfSome, Result, Ok, Err}
use Rattle.std.specs.Result.{is_ok, is_err}

-- The judgement.

pub judged-none : (s : List ℕ) → length s < 2 → judged s ≡ ShortSheet
unfolding judged
judged-none s h = simp (lt-ltb _ _ h)

module _ (s : List ℕ) (n : ℕ) (e : n ≡ word_at s 0) (two : 2 ≤ length s) where
  pub judged-zero : n ≡ 0 → judged s ≡ ShortSheet
  unfolding judged
  judged-zero z = rw (← e) (simp (le-ltb _ _ two, eq-eqb _ _ z))

  module _ (some : n ≡ 0 → ⊥) where
    pub judged-short : length s < 2 + n → judged s ≡ ShortSheet
    unfolding judged
    judged-short h = rw (← e) (simp (le-ltb _ _ two, ne_eqb _ _ some, lt-ltb _ _ h))

    module _ (whole : 2 + n ≤ length s) where
      pub judged_version : (get_or s 2 0 ≡ 1 → ⊥) → judged s ≡ BadSheetVersion
      unfolding judged
      judged_version v = rw (← e) (simp (le-ltb _ _ two, ne_eqb _ _ some, le-ltb _ _ whole, ne_eqb _ _ v))

      pub judged_phrases : get_or s 2 0 ≡ 1 → judged s ≡ fault 0 (phrases_of 3 (window 3 (2 + n) s))
      unfolding judged
      judged_phrases v = rw (← e) (simp (le-ltb _ _ two, ne_eqb _ _ some, le-ltb _ _ whole, eq-eqb _ _ v))

-- Whether sheets are sound, by what the code was told of them.

ok_by : (f : Refusal) (p : Bool) → is_ok {T = Unit} (cond p (Ok tt) (Err f)) ≡ p
ok_by f true = refl
ok_by f false = refl

err_by : (f : Refusal) (p : Bool) → is_err {T = Unit} (cond p (Ok tt) (Err f)) ≡ not p
err_by f true = refl
err_by f false = refl

module _ (why : Reason) {r : Result Unit Refusal} (is : r ≡ checked (bare why)) {b : Bool} where
  pub told_ok : b ≡ is_ok r → b ≡ passed (bare why)
  told_ok told = told ∙ ap is_ok is ∙ ok_by (bare why) (passed (bare why))

  told-err : b ≡ is_err r → b ≡ not (passed (bare why))
  told-err told = told ∙ ap is_err is ∙ err_by (bare why) (passed (bare why))

  pub sound_by : b ≡ is_err r → b ≡ false → passed (bare why) ≡ true
  sound_by told h = passed-is (bare why) (told-err told) h

  pub unsound-by : b ≡ is_err r → b ≡ true → passed (bare why) ≡ false
  unsound-by told h = refused-is (bare why) (told-err told) h

-- Where a phrase lies: what holds of each whole phrase, by what is left before it, holds of the one that is found.

module _ (Holds : Place → Type 0) (Left : ℕ → List ℕ → Type 0)
    (each : (at : ℕ) (rest : List ℕ) → Left at rest → 3 + count_in rest ≤ length rest
    → Holds (record { start = at + 3; count = count_in rest }) × Left (at + 3 + count_in rest) (drop (3 + count_in rest) rest)) where
  or_later : (code : ℕ) (p : Phrase) (ps : Phrases) → Holds (record { start = p.start; count = p.count })
      → IfSome (place_of code ps) Holds → IfSome (place_of code (phrase p ps)) Holds
  unfolding place_of
  or_later code p ps here later = by (eqb p.code code)
    where
      by : (b : Bool) → IfSome (cond b (Some (record { start = p.start; count = p.count })) (place_of code ps)) Holds
      by true = here
      by false = later

  place-by : (n at : ℕ) (rest : List ℕ) (code : ℕ) → Left at rest → IfSome (place_of code (phrases_from n at rest)) Holds
  unfolding phrases_from place_of
  place-by zero at rest code h = tt
  place-by (suc n) at rest code h =
      by (eqb (length rest) 0) (ltb (length rest) 3) (ltb (length rest) (3 + count_in rest)) refl
      (λ l. place-by n (at + 3 + count_in rest) (drop (3 + count_in rest) rest) code l)
    where
      later : Phrases
      later = phrases_from n (at + 3 + count_in rest) (drop (3 + count_in rest) rest)

      by : (a b d : Bool) → ltb (length rest) (3 + count_in rest) ≡ d
          → (Left (at + 3 + count_in rest) (drop (3 + count_in rest) rest) → IfSome (place_of code later) Holds)
          → IfSome (place_of code (cond a (ends None) (cond b (ends ShortSheet) (cond d (ends LongPhrase)
          (phrase (record { code = code_in rest; start = at + 3; count = count_in rest }) later))))) Holds
      by true b d e more = tt
      by false true d e more = tt
      by false false true e more = tt
      by false false false e more =
          let this = each at rest h (ltb-false (length rest) (3 + count_in rest) e) in
          or_later code (record { code = code_in rest; start = at + 3; count = count_in rest }) later this.0 (more this.1)

  pub found-by : (s : List ℕ) (code : ℕ) → Left 3 (body_of s) → IfSome (place_in s code) Holds
  unfolding place_in
  found-by s code h = place-by (length (body_of s)) 3 (body_of s) code h

-- it lies inside its sheet
pub inside : (s : List ℕ) (code : ℕ) → IfSome (place_in s code) (λ p. p.start + p.count ≤ length s)
inside s code =
    found-by (λ p. p.start + p.count ≤ length s) (λ at rest. 0 < length rest → at + length rest ≤ length s)
    (λ at rest h fits. (omega (arith, h (omega arith)), (λ some. omega (arith, h (omega arith), length-drop (3 + count_in rest) rest))))
    s code
    (λ some. omega (arith, length-take (2 + word_at s 0 - 3) (drop 3 s), length-drop 3 s))

-- and is counted by a byte
pub counted : (s : List ℕ) → ((i : ℕ) → get_or s i 0 < 256) → (code : ℕ) → IfSome (place_in s code) (λ p. p.count < 256)
counted s small code =
    found-by (λ p. p.count < 256) (λ at rest. (i : ℕ) → get_or rest i 0 < 256)
    (λ at rest h fits. (h 2, (λ i. rw (get_or-drop (3 + count_in rest) rest i 0) (h (3 + count_in rest + i)))))
    s code (small-take (2 + word_at s 0 - 3) (drop 3 s) (λ i. rw (get_or-drop 3 s i 0) (small (3 + i))))
  where
    small-take : (n : ℕ) (l : List ℕ) → ((i : ℕ) → get_or l i 0 < 256) → (i : ℕ) → get_or (take n l) i 0 < 256
    small-take n l h i = by (ltb i n) refl
      where
        by : (b : Bool) → ltb i n ≡ b → get_or (take n l) i 0 < 256
        by true e = rw (get_or-take n l i 0 (ltb-true i n e)) (h i)
        by false e =
            let past : length (take n l) ≤ i = omega (arith, length-take n l, ltb-false i n e) in
            rw (get_or-eq_default (take n l) 0 past) (omega arith)

-- Of two sheets.

module _ (workshop standard : List ℕ) (code : ℕ) where
  found-within : IfSome (find_in workshop standard code) (InSheet workshop standard)
  unfolding find_in
  found-within =
      by (place_in workshop code) (place_in standard code) (inside workshop code) (inside standard code)
    where
      by : (p q : Option Place) → IfSome p (λ p. p.start + p.count ≤ length workshop)
          → IfSome q (λ p. p.start + p.count ≤ length standard) → IfSome (first_of p q) (InSheet workshop standard)
      by (Some p) q h g = h
      by Nothing (Some q) h g = g
      by Nothing Nothing h g = tt

  module _ {f : Found} (is : find_in workshop standard code ≡ Some f) where
    pub found_inside : InSheet workshop standard f
    found_inside = subst (λ (o : Option Found). IfSome o (InSheet workshop standard)) is found-within

    pub inside_workshop : f.sheet ≡ Workshop → f.start + f.count ≤ length workshop
    inside_workshop e = subst (λ (s : Sheet). f.start + f.count ≤ length (of_sheet workshop standard s)) e found_inside

    pub inside_standard : f.sheet ≡ Standard → f.start + f.count ≤ length standard
    inside_standard e = subst (λ (s : Sheet). f.start + f.count ≤ length (of_sheet workshop standard s)) e found_inside
