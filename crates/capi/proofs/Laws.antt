-- What the functions' proofs cite: what is answered with an array that is filled from its front, and the records of an answer as the engine puts them there.
use Prim.Native.Nat.{ℕ, ◌≤◌, ◌<◌}
use mathlib.Core.Bool.{Bool, true, false, cond}
use mathlib.Core.List.{List, [], map}
use mathlib.Core.Path.{◌≡◌, refl, sym, ap, ap₂, ◌∙◌}
use native.Mathlib.Omega.{arith}
use lib.Dec.{eqb, leb}
use lib.ListN.{length}
use Rattle.std.specs.Prelude.{Result}
use borrow.Author.Tests.{eqb-true, eqb-false, le-leb, lt-leb}
use Rattle.esr.specs.Decode.{refused, accepted}
use Rattle.esr.specs.declared.Answer.{Answer}
use Rattle.written.specs.Outcomes.{Outcome, Answers}
use Rattle.records.specs.Sets.{records_of}
use Rattle.records.proofs.Laws.{list-of}
use Rattle.engine.specs.Engine.{readings}
use Rattle.engine.specs.Words.{words_of, putting}
use Rattle.std.specs.Prelude.{Ok, Err}
use Rattle.refusals.specs.Refusals.{carrying, checked, no_refusal, passed, refusal_number}
use Rattle.refusals.specs.declared.Reason.TheVariants.{ShortBuffer}
use Rattle.refusals.specs.declared.Refusal.{Refusal}
use Rattle.strict.specs.Strict.{answer_by}
use Rattle.strict.specs.declared.Profile.{Profile}
use Rattle.capi.specs.Answers.{filled_of}
use Rattle.capi.specs.Buffers.{front, filling, filled_by, filled_with, refusing}
use Rattle.capi.specs.Words.{all_words, decoding, judged_filling}
use Rattle.capi.specs.declared.Filled.{Filled}

-- what is answered with it
module _ {A : Type 0} (content before : List A) {count : ℕ} (is : count ≡ length content) {r : Filled} where
  pub filled-short : {f : Refusal} → length before < count → f ≡ carrying ShortBuffer count → r ≡ filled_of f 0 → (r, before) ≡ filling content before
  unfolding filling
  filled-short {f} h g e =
      ap (λ (x : Filled). (x, before)) (e ∙ ap (λ (x : Refusal). filled_of x 0) (g ∙ ap (carrying ShortBuffer) is))
      ∙ simp (lt-leb (length content) (length before) (omega arith))

  pub filled-whole : {after : List A} → count ≤ length before → r ≡ filled_of no_refusal count → after ≡ front content before
      → (r, after) ≡ filling content before
  unfolding filling
  filled-whole h e f =
      ap₂ (λ (x : Filled) (l : List A). (x, l)) (e ∙ ap (filled_of no_refusal) is) f
      ∙ simp (le-leb (length content) (length before) (omega arith))

-- what is answered with a text of `written`, `listing` or `sheets`
pub filled_requested : (o : Outcome) (before : List ℕ) {after : List ℕ} {w : Result ℕ Refusal} {r : Filled}
    → Answers o before (w, after) → r ≡ filled_by w → (r, after) ≡ filled_with o before
unfolding filled_with
filled_requested o before a e = ap₂ (λ (x : Filled) (l : List ℕ). (x, l)) (e ∙ ap filled_by a.0) a.1

-- The records of an answer.

-- a value that was judged as a profile judges it has the answer of the profile
module _ (profile : Profile) (esr : ℕ) (f : Refusal) (no : (refusal_number f ≡ 0 → ⊥) → refused f ≡ answer_by profile esr)
    (yes : refusal_number f ≡ 0 → accepted (readings esr) ≡ answer_by profile esr) (before : List (List ℕ)) where
  read-words : all_words (records_of (readings esr)) ≡ map words_of (readings esr)
  read-words = ap (map words_of) (list-of (readings esr))

  abbrev answering : Answer → Filled × List (List ℕ)
  answering a = cond (passed a.refusal) (filling (all_words a.records) before) (refusing a.refusal before)

  pub judged-decodes : judged_filling (checked f) esr before ≡ decoding profile esr before
  unfolding judged_filling decoding refused accepted
  judged-decodes = by (eqb (refusal_number f) 0) refl
    where
      by : (b : Bool) → eqb (refusal_number f) 0 ≡ b
          → judged_filling (cond b (Ok tt) (Err f)) esr before ≡ answering (answer_by profile esr)
      by true e = ap (λ (l : List (List ℕ)). filling l before) (sym read-words) ∙ ap answering (yes (eqb-true (refusal_number f) 0 e))
      by false e = ap (λ (b : Bool). cond b (filling (all_words (records_of [])) before) (refusing f before)) (sym e) ∙ ap answering (no (eqb-false (refusal_number f) 0 e))

-- what the engine put, where there is room and where there is none
module _ (content before after : List (List ℕ)) (count : ℕ) (put : (count, after) ≡ putting content before) where
  pub put_count : count ≡ length content
  unfolding putting
  put_count = ap (λ (r : ℕ × List (List ℕ)). r.0) put

  held : (b : Bool) → leb (length content) (length before) ≡ b → after ≡ cond b (front content before) before
  unfolding putting
  held b e = ap (λ (r : ℕ × List (List ℕ)). r.1) put ∙ ap (λ (x : Bool). cond x (front content before) before) e

  pub put_none : length before < count → after ≡ before
  put_none h = held false (lt-leb (length content) (length before) (omega (arith, put_count)))

  pub put_front : count ≤ length before → after ≡ front content before
  put_front h = held true (le-leb (length content) (length before) (omega (arith, put_count)))
