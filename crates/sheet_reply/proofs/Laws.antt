-- What the definitions give under the tests that the code made; and the lines of codes grow by one code's at each turn
-- of a loop.
use Prim.Native.Nat.{ℕ, zero, suc, ◌+◌, ◌-◌, ◌/◌, ◌%◌, ◌≤◌, ◌<◌}
use mathlib.Core.Bool.{Bool, true, false, cond}
use mathlib.Core.List.{List, [], ◌∷◌, ◌++◌, append-nil, append_assoc}
use mathlib.Core.Path.{◌≡◌, refl, sym, ap, subst, ◌∙◌}
use native.Mathlib.Nat.{add-zero, add-suc, suc-add}
use native.Mathlib.Omega.{arith}
use borrow.Author.Tests.{lt-ltb, le-ltb, ltb-true, ltb-false}
use lib.Dec.{ltb}
use lib.ListN.{length, take, drop, length-drop}
use lib.Seq.{take_all}
use Rattle.buffer.specs.Appending.{Appends, appended}
use Rattle.number.specs.Rest.{read_of}
use Rattle.phrases.specs.Writing.{phrase_bytes}
use Rattle.refusals.specs.declared.Refusal.{Refusal}
use Rattle.number.specs.declared.NumberRead.{NumberRead}
use Rattle.std.specs.Prelude.{Result, Ok, Err}
use Rattle.sheet_lines.proofs.Laws.{taken-within}
use Rattle.sheet_lines.specs.Lines.{code_line, taken_by, taken_of, text_start}
use Rattle.sheet_lines.specs.declared.Fault.{Fault}
use Rattle.sheet_lines.specs.declared.Fault.TheVariants.{NoText, NotRising, TooLong}
use Rattle.sheet_lines.specs.declared.Taken.{Taken}
use Rattle.sheets.specs.Standard.{is_records}
use Rattle.sheet_reply.specs.Replies.{lines_at, fault_words, answer_of, head_bytes}

-- One code more.

lines_snoc : (code n : ℕ) → lines_at code (suc n) ≡ lines_at code n ++ code_line (code + n)
unfolding lines_at
lines_snoc code zero = append-nil (code_line code) ∙ ap code_line (sym (add-zero code))
lines_snoc code (suc n) =
    ap (λ (l : List ℕ). code_line code ++ l) (lines_snoc (suc code) n)
    ∙ sym (append_assoc (code_line code) (lines_at (suc code) n) (code_line (suc code + n)))
    ∙ ap (λ (c : ℕ). lines_at code (suc n) ++ code_line c) (suc-add code n ∙ sym (add-suc code n))

pub one_more : (code first : ℕ) → first ≤ code → lines_at first (code + 1 - first) ≡ lines_at first (code - first) ++ code_line code
one_more code first h =
    let n : ℕ = code - first in
    let more : code + 1 - first ≡ suc n = omega arith in
    let here : first + n ≡ code = omega arith in
    rw more (lines_snoc first n ∙ ap (λ (c : ℕ). lines_at first n ++ code_line c) here)

pub none_yet : (first : ℕ) → lines_at first (first - first) ≡ []
unfolding lines_at
none_yet first = let e : first - first ≡ 0 = omega arith in rw e

-- A line that is taken has its text inside, of at most 255 bytes.

module _ (line : List ℕ) (least : ℕ) where
  abbrev pub Sound : Result Taken Fault → Type 0
  Sound (Ok t) = (t.start ≤ length line) × (length line - t.start ≤ 255)
  Sound (Err fault) = Unit {0}

  from-within : (taken : ℕ) → taken ≤ length line → text_start line taken ≤ length line
  from-within taken h = by (ltb taken (length line)) refl
    where
      by : (b : Bool) → ltb taken (length line) ≡ b → cond b (taken + 1) taken ≤ length line
      by true e = omega (arith, ltb-true taken (length line) e)
      by false e = h

  pub taken-sound : {r : Result Taken Fault} → r ≡ taken_of line least → Sound r
  unfolding taken_of
  taken-sound is = rw is (by-read (read_of line) refl)
    where
      by : (from : ℕ) (value : ℕ) (r l t : Bool) → ltb 255 (length line - from) ≡ t → from ≤ length line
          → Sound (cond r (cond l (Err NotRising) (cond t (Err TooLong) (Ok (record { start = from; code = value })))) (Err NoText))
      by from value false l t e h = tt
      by from value true true t e h = tt
      by from value true false true e h = tt
      by from value true false false e h = (h, omega (arith, ltb-false 255 (length line - from) e))

      by-read : (r : Result NumberRead Refusal) → read_of line ≡ r → Sound (taken_by line least r)
      by-read (Err f) e = tt
      by-read (Ok n) e =
          by (text_start line n.taken) n.value (is_records n.value) (ltb n.value least) (ltb 255 (length line - text_start line n.taken)) refl
          (from-within n.taken (taken-within line e))

-- a phrase is its head and the rest of the line
pub phrase-parts : (code : ℕ) (line : List ℕ) (start : ℕ)
    → phrase_bytes (code, drop start line) ≡ (code / 256 ∷ code % 256 ∷ (length line - start) ∷ []) ++ take (length line - start) (drop start line)
phrase-parts code line start =
    let long : length (drop start line) ≡ length line - start = length-drop start line in
    rw (long, take_all (length line - start) (drop start line) (omega (arith, long)))

-- Two bytes count the phrases, or they do not.

pub no_head : {count : ℕ} → 65534 < count → head_bytes count ≡ []
unfolding head_bytes
no_head {count} h = rw (lt-ltb 65534 count h)

pub a_head : {count : ℕ} → count ≤ 65534 → head_bytes count ≡ (1 + count) / 256 ∷ (1 + count) % 256 ∷ 1 ∷ []
unfolding head_bytes
a_head {count} h = rw (le-ltb 65534 count h)

-- an appender's answer is the line's
pub added : (least : ℕ) {what : List ℕ} {from out : ℕ × List ℕ} → Appends what from out → answer_of least out ≡ answer_of least (appended what from)
added least w = ap (answer_of least) w.is

-- a fault's words
pub words_of : {fault is : Fault} {before after : ℕ × List ℕ} → fault ≡ is → Appends (fault_words is) before after → Appends (fault_words fault) before after
words_of {fault} {is} {before} {after} e a = subst (λ (f : Fault). Appends (fault_words f) before after) (sym e) a
