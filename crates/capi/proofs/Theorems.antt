-- What the promises come to for a caller: a refusal leaves the array as it was, and the numbers beside it are 0; a slot
-- gives its record's fields back; the body is where the answer says. By the cases of each definition, and a field of a
-- slot as a digit of its word.
use Prim.Native.Nat.{ℕ, ◌^◌, ◌<◌}
use mathlib.Core.Bool.{Bool, true, false, cond}
use mathlib.Core.List.{List, [], ◌++◌}
use mathlib.Core.Path.{◌≡◌, refl, sym, ap, ◌∙◌}
use native.Mathlib.Omega.{arith}
use lib.Dec.{leb}
use Rattle.std.specs.Prelude.{Result, Ok, Err, replicate}
use lib.ListN.{length, get_or, take, drop, length-drop}
use lib.Seq.{length-take-le}
use borrow.Author.Tests.{eqb-true, eqb-false}
use Rattle.entry.proofs.Laws.{facts, entry-sound, body-sound, body_refused}
use Rattle.entry.specs.Entries.{judged, sound, entry_of, body_of}
use Rattle.entry.specs.declared.Entry.{Entry}
use Rattle.number.specs.Rest.{read_of}
use Rattle.number.specs.declared.NumberRead.{NumberRead}
use Rattle.written.specs.Outcomes.{Outcome, refused, text, refusal, answered, left}
use Rattle.records.specs.Bits.{field_of}
use Rattle.records.specs.Kinds.{mark_number}
use Rattle.records.specs.declared.Record.{Record}
use Rattle.records.proofs.ByMark.{mark-small}
use Rattle.phrases.specs.Sheets.{both_sound}
use Rattle.refusals.specs.Refusals.{carrying, passed, reason_number, refusal_number}
use Rattle.refusals.specs.declared.Reason.TheVariants.{ShortBuffer}
use Rattle.refusals.specs.declared.Refusal.{Refusal}
use Rattle.strict.specs.Strict.{answer_by}
use Rattle.strict.specs.declared.Profile.{Profile}
use Rattle.survey.specs.declared.Tally.{Tally}
use Rattle.walk.specs.declared.Walked.{Walked}
use Rattle.capi.specs.Answers.{read_by, read_answer, refusal_in, entry_numbers, entry_answer, walk_answer, make_answer, survey_answer, phrase_of}
use Rattle.capi.specs.Buffers.{filling, filled_by, filled_with}
use Rattle.engine.specs.Words.{words_of}
use Rattle.capi.specs.Words.{all_words, decoding}
use Rattle.capi.specs.declared.Filled.{Filled}

-- A caller's array.

-- what a refusal leaves: the array as it was
pub record Kept {A : Type 0} (before : List A) (out : Filled × List A) : Type 0 where
  pub kept : (out.0.refusal ≡ 0 → ⊥) → out.1 ≡ before

by-test : {A : Type 0} {before : List A} {x y : Filled × List A} (b : Bool) → Kept before x → Kept before y → Kept before (cond b x y)
by-test true p q = p
by-test false p q = q

pub text-kept : {A : Type 0} (content before : List A) → Kept before (filling content before)
unfolding filling
text-kept content before = by-test (leb (length content) (length before)) (record { kept = λ h. absurd (h refl) }) (record { kept = λ h. refl })

pub decode_kept : (profile : Profile) (esr : ℕ) (before : List (List ℕ)) → Kept before (decoding profile esr before)
unfolding decoding
decode_kept profile esr before =
    by-test (passed (answer_by profile esr).refusal) (text-kept (all_words (answer_by profile esr).records) before) (record { kept = λ h. refl })

pub filled-kept : (o : Outcome) (before : List ℕ) → Kept before (filled_with o before)
unfolding filled_with answered left
filled-kept (refused f) before = record { kept = λ h. refl }
filled-kept (text t) before = by-room (leb (length t) (length before))
  where
    by-room : (b : Bool)
        → Kept before (
          filled_by (cond b (Ok (length t)) (refusal (carrying ShortBuffer (length t)))),
          cond b (t ++ drop (length t) before) before,
        )
    by-room true = record { kept = λ h. absurd (h refl) }
    by-room false = record { kept = λ h. refl }

-- The numbers beside a refusal, in C, where no type leaves them out.

-- of a number at the front of an input: "a refusal still takes 0 bytes", and has the value 0
pub read-zeros : (s : List ℕ) → ((read_answer s).refusal ≡ 0 → ⊥)
    → ((read_answer s).value ≡ 0) × ((read_answer s).taken ≡ 0)
unfolding read_answer
read-zeros s = by (read_of s)
  where
    by : (r : Result NumberRead Refusal) → ((read_by r).refusal ≡ 0 → ⊥)
        → ((read_by r).value ≡ 0) × ((read_by r).taken ≡ 0)
    by (Ok n) h = absurd (h refl)
    by (Err f) h = (refl, refl)

-- of an entry
pub entry-zeros : (s : List ℕ) → ((entry_answer s).refusal ≡ 0 → ⊥)
    → ((entry_answer s).sequence ≡ 0) × ((entry_answer s).esr ≡ 0) × ((entry_answer s).length ≡ 0)
unfolding entry_answer
entry-zeros s h = (sequence, esr, ap length none)
  where
    Refused : Result Entry Refusal → Type 0
    Refused r = refusal_number (refusal_in r) ≡ 0 → ⊥

    sequence-by : (r : Result Entry Refusal) → Refused r → (entry_numbers r).sequence ≡ 0
    sequence-by (Ok e) h = absurd (h refl)
    sequence-by (Err f) h = refl

    esr-by : (r : Result Entry Refusal) → Refused r → (entry_numbers r).esr ≡ 0
    esr-by (Ok e) h = absurd (h refl)
    esr-by (Err f) h = refl

    sequence : (entry_numbers (entry_of s)).sequence ≡ 0
    sequence = sequence-by (entry_of s) h

    esr : (entry_numbers (entry_of s)).esr ≡ 0
    esr = esr-by (entry_of s) h

    none : body_of s ≡ []
    none = body_refused s (λ z. h (ap (λ (r : Result Entry Refusal). refusal_number (refusal_in r)) (entry-sound s z)))

-- of a walk
pub walk-zeros : (r : Result Walked Refusal) → ((walk_answer r).refusal ≡ 0 → ⊥)
    → ((walk_answer r).entries ≡ 0) × ((walk_answer r).decoded ≡ 0)
    × ((walk_answer r).offset ≡ 0) × ((walk_answer r).ended ≡ 0)
unfolding walk_answer
walk-zeros (Ok w) h = absurd (h refl)
walk-zeros (Err f) h = (refl, refl, refl, refl)

-- of a value that is made
pub make-zeros : (r : Result ℕ Refusal) → ((make_answer r).refusal ≡ 0 → ⊥) → (make_answer r).value ≡ 0
make-zeros (Ok v) h = absurd (h refl)
make-zeros (Err f) h = refl

-- of a survey
pub survey-zeros : (r : Result Tally Refusal) → ((survey_answer r).refusal ≡ 0 → ⊥)
    → (survey_answer r).refused ≡ replicate 7 0
survey-zeros (Ok t) h = absurd (h refl)
survey-zeros (Err f) h = refl

-- of the place of a phrase, where the sheets are refused
pub phrase-zeros : (workshop standard : List ℕ) (code : ℕ) → both_sound workshop standard ≡ false
    → ((phrase_of workshop standard code).sheet ≡ 0)
    × ((phrase_of workshop standard code).offset ≡ 0)
    × ((phrase_of workshop standard code).length ≡ 0)
unfolding phrase_of
phrase-zeros workshop standard code bad = (simp bad, simp bad, simp bad)

-- of a text or a sheet
pub filled-zero : (r : Result ℕ Refusal) → ((filled_by r).refusal ≡ 0 → ⊥) → (filled_by r).count ≡ 0
filled-zero (Ok n) h = absurd (h refl)
filled-zero (Err f) h = refl

-- A slot.

module _ (x : Record) (name : x.name < 2 ^ 16) (text : x.text < 2 ^ 16) (long : x.long < 2 ^ 8) (start : x.start < 2 ^ 8) (width : x.width < 2 ^ 8) where
  abbrev word : ℕ
  word = get_or (words_of x) 1 0

  pub name_back : field_of word 0 16 ≡ x.name
  unfolding field_of words_of
  name_back = omega arith

  pub text-back : field_of word 16 16 ≡ x.text
  unfolding field_of words_of
  text-back = omega arith

  pub long-back : field_of word 32 8 ≡ x.long
  unfolding field_of words_of
  long-back = omega arith

  pub start_back : field_of word 40 8 ≡ x.start
  unfolding field_of words_of
  start_back = omega arith

  pub width_back : field_of word 48 8 ≡ x.width
  unfolding field_of words_of
  width_back = omega arith

  pub mark-back : field_of word 56 8 ≡ mark_number x.mark
  unfolding field_of words_of
  mark-back = omega (arith, mark-small x.mark)

-- The body: that many bytes of the block, from there on.

pub body-there : (s : List ℕ) → take (entry_answer s).length (drop (entry_answer s).body s) ≡ body_of s
unfolding entry_answer
body-there s = by (sound s) refl
  where
    by : (b : Bool) → sound s ≡ b → take (length (body_of s)) (drop (cond b 2 0) s) ≡ body_of s
    by true h =
        let free : reason_number (judged s) ≡ 0 = eqb-true (reason_number (judged s)) 0 h in
        let is = body-sound s free in
        let n : length (body_of s) ≡ 11 = ap length is ∙ length-take-le 11 (drop 2 s) (omega (arith, (facts s free).long, length-drop 2 s)) in
        ap (λ (k : ℕ). take k (drop 2 s)) n ∙ sym is
    by false h =
        let none = body_refused s (eqb-false (reason_number (judged s)) 0 h) in
        ap (λ (k : ℕ). take k s) (ap length none) ∙ sym none
