-- What the standard sheet has: it is sound, and has under a code its text if a record can have it, and nothing else, whatever bytes follow. A rule of
-- one test over the codes in order, by induction on how many there are.
use Prim.Native.Nat.{ℕ, zero, suc, ◌+◌, ◌-◌, ◌≤◌, ◌<◌}
use mathlib.Core.Bool.{Bool, true, false, cond, not, ◌&&◌}
use mathlib.Core.List.{List, [], ◌∷◌, ◌++◌}
use mathlib.Core.Path.{◌≡◌, refl, sym, ◌∙◌, subst}
use native.Mathlib.Nat.{add-suc}
use native.Mathlib.Omega.{arith}
use borrow.Author.Tests.{le-leb, lt-leb, eq-eqb, ne_eqb, eqb-true, eqb-false, ltb-true, ltb-false}
use lib.Dec.{T, eqb, leb, ltb}
use lib.ListN.{length, get_or-eq_default}
use Rattle.phrases.specs.Sheets.{Text, missing, found, judged, text_from}
use Rattle.phrases.specs.Writing.{rising, look_up}
use Rattle.phrases.proofs.Reading.{sound-written, read_back}
use Rattle.refusals.specs.declared.Reason.TheVariants.{None}
use Rattle.sheets.specs.Standard.{is_message, is_records, phrase_at, phrases_at, standard_phrases, standard_sheet}
use Rattle.texts.specs.Pool.{name_room, texts, text_at, bytes, bytes_at}
use Rattle.sheets.proofs.Laws.{codes}

-- Codes rise.

codes_rise : (least code n : ℕ) → least ≤ code → T (rising least (phrases_at code n))
unfolding phrases_at phrase_at rising
codes_rise least code zero h = tt
codes_rise least code (suc n) h = by (is_records code) (codes_rise (code + 1) (suc code) n (omega arith)) (codes_rise least (suc code) n (omega arith))
  where
    by : (b : Bool) → T (rising (code + 1) (phrases_at (suc code) n)) → T (rising least (phrases_at (suc code) n))
        → T (rising least (cond b ((code, bytes_at code) ∷ []) [] ++ phrases_at (suc code) n))
    by true later same = rw (le-leb least code h) later
    by false later same = same

-- What is under a code.

abbrev is_text : ℕ → Text
is_text code = cond (is_records code) (found (bytes_at code)) missing

not_before : (code first n : ℕ) → code < first → look_up code (phrases_at first n) ≡ missing
unfolding phrases_at phrase_at look_up
not_before code first zero h = refl
not_before code first (suc n) h = by (is_records first) (not_before code (suc first) n (omega arith))
  where
    by : (b : Bool) → look_up code (phrases_at (suc first) n) ≡ missing → look_up code (cond b ((first, bytes_at first) ∷ []) [] ++ phrases_at (suc first) n) ≡ missing
    by true later = rw (ne_eqb first code (omega arith)) later
    by false later = later

within : (code first n : ℕ) → first ≤ code → code < first + n → look_up code (phrases_at first n) ≡ is_text code
unfolding phrases_at phrase_at look_up
within code first zero h g = absurd (omega arith)
within code first (suc n) h g = by_code (eqb first code) refl
    (λ l. within code (suc first) n l (omega (arith, add-suc first n)))
  where
    by-kept : (b : Bool) → is_records first ≡ b → first ≡ code → look_up code (cond b ((first, bytes_at first) ∷ []) [] ++ phrases_at (suc first) n) ≡ is_text code
    by-kept true k e = rw (eq-eqb first code e, ← e, k)
    by-kept false k e = not_before code (suc first) n (omega arith) ∙ rw (← e, k)

    past : (b : Bool) → (first ≡ code → ⊥) → look_up code (phrases_at (suc first) n) ≡ is_text code
        → look_up code (cond b ((first, bytes_at first) ∷ []) [] ++ phrases_at (suc first) n) ≡ is_text code
    past true e later = rw (ne_eqb first code e) later
    past false e later = later

    by_code : (b : Bool) → eqb first code ≡ b → (suc first ≤ code → look_up code (phrases_at (suc first) n) ≡ is_text code)
        → look_up code (phrase_at first ++ phrases_at (suc first) n) ≡ is_text code
    by_code true e later = by-kept (is_records first) refl (eqb-true first code e)
    by_code false e later = let ne = eqb-false first code e in past (is_records first) ne (later (omega arith))

not_after : (code first n : ℕ) → first + n ≤ code → look_up code (phrases_at first n) ≡ missing
unfolding phrases_at phrase_at look_up
not_after code first zero h = refl
not_after code first (suc n) h = by (is_records first) (not_after code (suc first) n (omega (arith, add-suc first n)))
  where
    by : (b : Bool) → look_up code (phrases_at (suc first) n) ≡ missing → look_up code (cond b ((first, bytes_at first) ∷ []) [] ++ phrases_at (suc first) n) ≡ missing
    by true later = rw (ne_eqb first code (omega (arith, add-suc first n))) later
    by false later = later

-- a name's code, or one past the last text, is no record's
pub no_name : (code : ℕ) → code < name_room → is_records code ≡ false
unfolding is_records
no_name code h = rw (lt-leb name_room code h)

pub no_more : (code : ℕ) → length texts ≤ code → is_records code ≡ false
unfolding is_records bytes_at text_at bytes
no_more code h = rw (get_or-eq_default texts "" h) (by (leb name_room code) (is_message code))
  where
    by : (a b : Bool) → a && (not b && false) ≡ false
    by true true = refl
    by true false = refl
    by false b = refl

-- a record's code is small, and is no message's
pub records-small : (code : ℕ) → is_records code ≡ true → code < 597
records-small code h = by (ltb code (length texts)) refl
  where
    by : (b : Bool) → ltb code (length texts) ≡ b → code < 597
    by true e = omega (arith, ltb-true code (length texts) e, codes)
    by false e = absurd (subst T (sym h ∙ no_more code (ltb-false code (length texts) e)) tt)

pub no_words : (code : ℕ) → not (is_message code) ≡ false → is_records code ≡ false
unfolding is_records
no_words code m = rw m (by (leb name_room code))
  where
    by : (b : Bool) → b && false ≡ false
    by true = refl
    by false = refl

pub by_length : (code : ℕ) → name_room ≤ code → not (is_message code) ≡ true
    → is_records code ≡ not (eqb (length (bytes_at code)) 0)
unfolding is_records
by_length code past free = rw (le-leb name_room code past, free)

standard_look : (code : ℕ) → look_up code standard_phrases ≡ is_text code
unfolding standard_phrases
standard_look code = by-test (ltb code name_room) refl (ltb code (length texts)) refl
  where
    by-test : (a : Bool) → ltb code name_room ≡ a → (b : Bool) → ltb code (length texts) ≡ b → look_up code (phrases_at name_room (length texts - name_room)) ≡ is_text code
    by-test true e b d =
        let h = ltb-true code name_room e in
        not_before code name_room (length texts - name_room) h ∙ rw (no_name code h)
    by-test false e true d =
        within code name_room (length texts - name_room) (ltb-false code name_room e) (omega (arith, ltb-true code (length texts) d, codes))
    by-test false e false d =
        let h = ltb-false code (length texts) d in
        not_after code name_room (length texts - name_room) (omega (arith, h, codes)) ∙ rw (no_more code h)

-- the standard sheet is sound, whatever follows it
pub standard_sound : (more : List ℕ) → judged (standard_sheet ++ more) ≡ None
unfolding standard_sheet standard_phrases
standard_sound more = sound-written standard_phrases more (codes_rise 0 name_room (length texts - name_room) (omega arith))

-- "reading it back gives every text", and no other code
pub standard_texts : (more : List ℕ) (code : ℕ) → text_from (standard_sheet ++ more) code ≡ cond (is_records code) (found (bytes_at code)) missing
unfolding standard_sheet
standard_texts more code = read_back standard_phrases more code ∙ standard_look code
