-- Both engines give the same answer to every value, by one argument over tables: the checks of a class, taken by their numbers, are those of the table that
-- serves it, since rows that tile ISS have one row to a start; its rows are the table's. No layout is named.
use mathlib.Core.Path.{◌≡◌, refl, sym, ap, ap₂, ◌∙◌, subst}
use mathlib.Core.Bool.{Bool, true, false, cond, not, ◌&&◌}
use mathlib.Core.List.{List, [], ◌∷◌, ◌++◌, map}
use Prim.Native.Nat.{ℕ, suc, ◌+◌, ◌*◌, ◌/◌, ◌%◌, ◌≤◌, ◌<◌}
use native.Mathlib.Omega.{arith}
use lib.Dec.{T, eqb, leb, ltb, eqb→eq, leb→le, ltb→lt}
use lib.ListN.{length}
use borrow.Author.Tests.{eq-eqb, ne_eqb, eqb-true, eqb-false}
use Rattle.promise.specs.Member.{member}
use Rattle.promise.proofs.Tests.{both_left, both_right, is_true}
use Rattle.std.specs.Prelude.{Result, Ok, Err}
use Rattle.refusals.specs.Refusals.{refusal_number, passed, carrying, no_refusal}
use Rattle.refusals.specs.declared.Reason.TheVariants.{InvalidEc}
use Rattle.refusals.specs.declared.Refusal.{Refusal}
use Rattle.records.specs.Bits.{field_of}
use Rattle.records.specs.Kinds.{kind_of}
use Rattle.records.specs.Rows.{record_of, meets, refusal_of, row_kind}
use Rattle.records.specs.Sets.{records_of}
use Rattle.records.specs.declared.Record.{Record}
use Rattle.records.specs.declared.Records.{Records}
use Rattle.records.specs.declared.Row.{Row}
use Rattle.tables.specs.Shape.{Line, Table, tests}
use Rattle.tables.specs.Applying.{passes, met, keep, rows_for, is_check, is_check_at, check_at, in_order, checks_for}
use Rattle.tables.specs.Tables.{reserved, Served, layouts}
use Rattle.tables.proofs.Laws.{keep-is}
use Rattle.tables.proofs.Sound.{tiles, tiled, sound-table, sound}
use Rattle.engine_table.specs.Packed.{bytes_of, answers_of, row_word, askers_at, askers, Place, nowhere, placed, place_of, place_word, check_word}
use Rattle.engine.specs.Engine.{row_in, applies, fails, failure_from, checks_in, failure_of, judgement, tops_of, records_by, readings}
use Rattle.engine.specs.Promises.{Judged, Walked}
use Rattle.engine.proofs.Rows.{right_line, right, own, row_back, applies_as, Stands, table_for, Found, Looked, missing, found, looked, rows-found, are_bytes, Placed, place-back, rows_at}
use Rattle.esr.specs.Decode.{first_failure, refused, accepted, failure_for, records_for, table_answer, class_of, iss_of, class_answer, answer_of}
use Rattle.esr.specs.Engine.{engine_answer, judged_answer}
use Rattle.esr.specs.Promises.{Decoded}
use Rattle.esr.specs.declared.Answer.{Answer}

-- The checks as a list of indices.

abbrev failure_at : ℕ → ℕ → List ℕ → Refusal
failure_at answers v [] = no_refusal
failure_at answers v (i ∷ is) = cond (fails answers v (row_word i)) (refusal_of v (row_in (row_word i))) (failure_at answers v is)

unpacked : (answers v : ℕ) (is : List ℕ) → T (are_bytes is) → failure_from answers v (bytes_of is) (length is) ≡ failure_at answers v is
unfolding failure_from field_of
unpacked answers v [] t = refl
unpacked answers v (i ∷ is) t =
    let small : i < 256 = ltb→lt i 256 (both_left (ltb i 256) _ t) in
    let low : (i + 256 * bytes_of is) / 1 % 256 ≡ i = omega arith in
    let high : (i + 256 * bytes_of is) / 256 ≡ bytes_of is = omega arith in
    ap₂ (λ (k m : ℕ). cond (fails answers v (row_word k)) (refusal_of v (row_in (row_word k))) (failure_from answers v m (length is))) low high
    ∙ ap (λ (f : Refusal). cond (fails answers v (row_word i)) (refusal_of v (row_in (row_word i))) f) (unpacked answers v is (both_right (ltb i 256) _ t))

-- all rows that start at s and ask something
abbrev picked : ℕ → List Row → List Row
picked s [] = []
picked s (r ∷ rs) = cond (is_check_at s r) (r ∷ picked s rs) (picked s rs)

turned : (x : Bool) (a e f : Refusal) → e ≡ f → cond (not x) a e ≡ cond x f a
turned true a e f q = q
turned false a e f q = refl

-- a line of the table: passed over, or checked
step : (v m n s : ℕ) (r : Row) (A : List ℕ) (K : List Row) (is : List ℕ) (rs : List Row) (b d : Bool) → is_check_at s r ≡ b → applies m (row_word n) ≡ d
    → row_in (row_word n) ≡ r → failure_at m v (A ++ is) ≡ first_failure v (picked s K ++ rs)
    → failure_at m v (cond b (n ∷ A) A ++ is) ≡ first_failure v (picked s (cond d (r ∷ K) K) ++ rs)
unfolding first_failure
step v m n s r A K is rs true true p a q h =
    ap₂ (λ (x : Bool) (y : Row). cond (x && not (meets v y)) (refusal_of v y) (failure_at m v (A ++ is))) a q
    ∙ turned (meets v r) (refusal_of v r) (failure_at m v (A ++ is)) (first_failure v (picked s K ++ rs)) h
    ∙ sym (ap (λ (x : Bool). first_failure v (cond x (r ∷ picked s K) (picked s K) ++ rs)) p)
step v m n s r A K is rs true false p a q h =
    ap₂ (λ (x : Bool) (y : Row). cond (x && not (meets v y)) (refusal_of v y) (failure_at m v (A ++ is))) a q ∙ h
step v m n s r A K is rs false true p a q h = h ∙ sym (ap (λ (x : Bool). first_failure v (cond x (r ∷ picked s K) (picked s K) ++ rs)) p)
step v m n s r A K is rs false false p a q h = h

-- one start of the order: the lines that ask something there, by their indices, fail as the rows that the table keeps there
asked : (v n s : ℕ) (ls : List Line) → Stands n ls → T (right ls) → (is : List ℕ) (rs : List Row)
    → failure_at (answers_of v) v is ≡ first_failure v rs
    → failure_at (answers_of v) v (askers_at n ls s ++ is) ≡ first_failure v (picked s (keep (own v) ls) ++ rs)
asked v n s [] st ok is rs e = e
asked v n s (l ∷ ls) st ok is rs e =
    let one : T (right_line l) = both_left (right_line l) (right ls) ok in
    step v (answers_of v) n s l.row (askers_at (suc n) ls s) (keep (own v) ls) is rs (is_check_at s l.row) (met (own v) l.conditions) refl
    (ap (applies (answers_of v)) st.0 ∙ applies_as l one v) (ap row_in st.0 ∙ row_back l one)
    (asked v (suc n) s ls st.1 (both_right (right_line l) (right ls) ok) is rs e)

-- Rows that tile ISS have one row to a start.

before : (b c : Bool) (r : Row) (rs : List Row) → b ≡ false → cond (b && c) (r ∷ rs) rs ≡ rs
before b c r rs e = ap (λ (x : Bool). cond (x && c) (r ∷ rs) rs) e

below : (top s : ℕ) (rows : List Row) → T (tiles top rows) → top ≤ s → picked s rows ≡ []
below top s [] t h = refl
below top s (r ∷ rs) t h =
    let t₁ : _ = both_right (eqb (r.start + r.width) top) _ t in
    let sum : r.start + r.width ≡ top = eqb→eq (r.start + r.width) top (both_left (eqb (r.start + r.width) top) _ t) in
    let wide : 1 ≤ r.width = leb→le 1 r.width (both_left (leb 1 r.width) _ t₁) in
    before (eqb r.start s) (is_check (row_kind r)) r (picked s rs) (ne_eqb r.start s (λ e. omega arith))
    ∙ below r.start s rs (both_right (leb 1 r.width) _ t₁) (omega arith)

one-row : (top s : ℕ) (rows : List Row) → T (tiles top rows) → picked s rows ≡ check_at rows s
one-row top s [] t = refl
one-row top s (r ∷ rs) t =
    let t₁ : _ = both_right (eqb (r.start + r.width) top) _ t in
    let t₂ : T (tiles r.start rs) = both_right (leb 1 r.width) _ t₁ in
    by (is_check_at s r) refl (below r.start s rs t₂) (one-row r.start s rs t₂)
  where
    by : (b : Bool) → is_check_at s r ≡ b → (r.start ≤ s → picked s rs ≡ []) → picked s rs ≡ check_at rs s
        → cond b (r ∷ picked s rs) (picked s rs) ≡ cond b (r ∷ []) (check_at rs s)
    by true e none rest =
        let same : r.start ≡ s = eqb→eq r.start s (both_left (eqb r.start s) _ (is_true e)) in
        ap (λ (xs : List Row). r ∷ xs) (none (omega arith))
    by false e none rest = rest

one-check : (rows : List Row) → T (tiled rows) → (s : ℕ) → picked s rows ≡ check_at rows s
one-check [] t s = refl
one-check (r ∷ rs) t s = one-row 25 s (r ∷ rs) t

-- The checks of a table.

ordered : (v n : ℕ) (ls : List Line) → Stands n ls → T (right ls) → T (tiled (keep (own v) ls)) → (order : List ℕ)
    → failure_at (answers_of v) v (askers n ls order) ≡ first_failure v (in_order (keep (own v) ls) order)
unfolding first_failure
ordered v n ls st ok t [] = refl
ordered v n ls st ok t (s ∷ ss) =
    asked v n s ls st ok (askers n ls ss) (in_order (keep (own v) ls) ss) (ordered v n ls st ok t ss)
    ∙ ap (λ (rs : List Row). first_failure v (rs ++ in_order (keep (own v) ls) ss)) (one-check (keep (own v) ls) t s)

module _ (c k : ℕ) (s : Served) (v : ℕ) (is : place_of c ≡ placed k s.table) (f : Found k s) where
  kept : keep (own v) s.table.lines ≡ rows_for s.table v
  unfolding rows_for
  kept = keep-is (passes v) tests s.table.lines f.knows

  checks-found : failure_from (answers_of v) v (check_word c) (checks_in (place_word c)) ≡ failure_for s.table v
  unfolding check_word failure_for checks_for
  checks-found =
      let t : Table = s.table in
      let indices : List ℕ = askers k t.lines t.order in
      let b : Placed (place_word c) (place_of c) = place-back c in
      let bytes : T (are_bytes indices) = subst (λ (p : Place). T (are_bytes p.checks)) is b.bytes in
      ap₂ (failure_from (answers_of v) v) (ap (λ (p : Place). bytes_of p.checks) is) (b.checks ∙ ap (λ (p : Place). length p.checks) is)
      ∙ unpacked (answers_of v) v indices bytes
      ∙ ordered v k t.lines f.stands f.packs (subst (λ (rs : List Row). T (tiled rs)) (sym kept) (sound t (sound-table f.among) v).tile) t.order
      ∙ ap (λ (rs : List Row). first_failure v (in_order rs t.order)) kept

  served : place_word c ≡ 0 → ⊥
  unfolding place_word
  served e = let w : _ = sym (ap (λ (p : Place). bytes_of (p.first ∷ p.count ∷ p.rule ∷ length p.checks ∷ p.served ∷ [])) is) ∙ e in omega arith

  judged-found : failure_of c v ≡ failure_for s.table v
  unfolding failure_of
  judged-found = rw (ne_eqb (place_word c) 0 served) checks-found

  records-found : (esr : ℕ) → records_by esr c v ≡ records_for s.table esr v
  unfolding records_by records_for
  records-found esr =
      ap₂ (λ (rule : ℕ) (rows : List Row). tops_of esr rule ++ map (record_of v) rows) ((place-back c).rule ∙ ap (λ (p : Place). p.rule) is)
      (rows_at c v (placed k s.table) is ∙ rows-found k s f v)

-- The class.

abbrev answer_for : List Table → ℕ → Answer
answer_for [] esr = refused (carrying InvalidEc (class_of esr))
answer_for (t ∷ ts) esr = table_answer t esr (iss_of esr)

class-answer : (ss : List Served) (esr : ℕ) → class_answer ss esr ≡ answer_for (table_for ss (class_of esr)) esr
unfolding class_answer
class-answer [] esr = refl
class-answer (s ∷ ss) esr = by (member (class_of esr) s.classes) (class-answer ss esr)
  where
    by : (b : Bool) → class_answer ss esr ≡ answer_for (table_for ss (class_of esr)) esr
        → cond b (table_answer s.table esr (iss_of esr)) (class_answer ss esr) ≡ answer_for (cond b (s.table ∷ []) (table_for ss (class_of esr))) esr
    by true e = refl
    by false e = e

abbrev answer_by : Refusal → List Record → Answer
answer_by f l = cond (passed f) (accepted l) (refused f)

unserved : (c v : ℕ) → place_of c ≡ nowhere → failure_of c v ≡ carrying InvalidEc c
unfolding failure_of place_word
unserved c v e = rw e refl

class_agrees : (esr : ℕ) → answer_by (failure_of (class_of esr) (iss_of esr)) (readings esr) ≡ class_answer layouts esr
unfolding place_of table_answer
class_agrees esr = by (looked (class_of esr)) ∙ sym (class-answer layouts esr)
  where
    by : Looked (class_of esr) 0 layouts
        → answer_by (failure_of (class_of esr) (iss_of esr)) (readings esr) ≡ answer_for (table_for layouts (class_of esr)) esr
    by (missing p t) =
        ap (λ (f : Refusal). answer_by f (readings esr)) (unserved (class_of esr) (iss_of esr) p) ∙ ap (λ (ts : List Table). answer_for ts esr) (sym t)
    by (found k s p t f) =
        ap₂ answer_by (judged-found (class_of esr) k s (iss_of esr) p f) (records-found (class_of esr) k s (iss_of esr) p f esr)
        ∙ ap (λ (ts : List Table). answer_for ts esr) (sym t)

refuses : (esr : ℕ) (l : List Record) → answer_by (refusal_of esr reserved) l ≡ refused (refusal_of esr reserved)
unfolding refusal_of kind_of
refuses esr l = refl

-- what the engine answers is what the tables answer
pub engines_agree : (esr : ℕ) → engine_answer esr ≡ answer_of esr
unfolding engine_answer judgement answer_of
engines_agree esr = by (meets esr reserved)
  where
    by : (b : Bool)
        → answer_by (cond b (failure_of (class_of esr) (iss_of esr)) (refusal_of esr reserved)) (readings esr)
        ≡ cond b (class_answer layouts esr) (refused (refusal_of esr reserved))
    by true = class_agrees esr
    by false = refuses esr (readings esr)

-- the answer by the engine's judgement
module _ (esr : ℕ) (f : Refusal) (is : f ≡ judgement esr) where
  pub engine_refuses : (refusal_number f ≡ 0 → ⊥) → refused f ≡ answer_of esr
  unfolding engine_answer
  engine_refuses h =
      sym (ap (λ (b : Bool). cond b (accepted (readings esr)) (refused f)) (ne_eqb (refusal_number f) 0 h))
      ∙ ap (λ (g : Refusal). answer_by g (readings esr)) is
      ∙ engines_agree esr

  pub engine_accepts : refusal_number f ≡ 0 → accepted (readings esr) ≡ answer_of esr
  unfolding engine_answer
  engine_accepts h =
      sym (ap (λ (b : Bool). cond b (accepted (readings esr)) (refused f)) (eq-eqb (refusal_number f) 0 h))
      ∙ ap (λ (g : Refusal). answer_by g (readings esr)) is
      ∙ engines_agree esr

-- the answer by its own refusal: none of the engine's records where it is refused, and these where it is accepted
module _ (esr : ℕ) where
  abbrev number : ℕ
  number = refusal_number (answer_of esr).refusal

  by-judgement : ((refusal_number (judgement esr) ≡ 0 → ⊥) → number ≡ refusal_number (judgement esr)) × (refusal_number (judgement esr) ≡ 0 → number ≡ 0)
  unfolding refused accepted
  by-judgement =
      (λ h. sym (ap (λ (a : Answer). refusal_number a.refusal) (engine_refuses esr (judgement esr) refl h)), λ z. sym (ap (λ (a : Answer). refusal_number a.refusal) (engine_accepts esr (judgement esr) refl z)))

  judged-by : (b : Bool) → eqb (refusal_number (judgement esr)) 0 ≡ b → ((number ≡ 0 → ⊥) → refused (answer_of esr).refusal ≡ answer_of esr) × (number ≡ 0 → accepted (readings esr) ≡ answer_of esr)
  unfolding refused
  judged-by true e =
      let z = eqb-true (refusal_number (judgement esr)) 0 e in
      (λ h. absurd (h (by-judgement.1 z)), λ _. engine_accepts esr (judgement esr) refl z)
  judged-by false e =
      let h = eqb-false (refusal_number (judgement esr)) 0 e in
      let is = engine_refuses esr (judgement esr) refl h in
      (λ _. ap (λ (a : Answer). refused a.refusal) (sym is) ∙ is, λ z. absurd (h (sym (by-judgement.0 h) ∙ z)))

  pub answer-refuses : (number ≡ 0 → ⊥) → refused (answer_of esr).refusal ≡ answer_of esr
  answer-refuses = (judged-by _ refl).0

  pub answer-accepts : number ≡ 0 → accepted (readings esr) ≡ answer_of esr
  answer-accepts = (judged-by _ refl).1

judged : (p : Bool) (f : Refusal) (l : List Record)
    → cond p (accepted l) (refused f) ≡ judged_answer (cond p (Ok tt) (Err f)) (records_of l)
unfolding accepted judged_answer
judged true f l = refl
judged false f l = refl

-- #113: "prove that both give the same records and refusals on every value, once over all layouts". Whatever the engine's
-- two functions give, and the decoder in the Rust's shape, by their promises: the decoder answers with the engine's
-- refusal, and where there is none, with its records.
pub same-answers : (esr : ℕ) (r : Result Unit Refusal) (s : Records) (a : Answer) → Judged esr r → Walked esr s
    → Decoded esr a → a ≡ judged_answer r s
unfolding engine_answer
same-answers esr r s a is walked decoded =
    decoded
    ∙ sym (engines_agree esr)
    ∙ judged (passed (judgement esr)) (judgement esr) (readings esr)
    ∙ ap₂ judged_answer (sym is) (sym walked)
