-- The answer in the steps of the code: the checks one by one, the walk row by row, the class table's number for the layout that serves a class.
use mathlib.Core.Path.{◌≡◌, refl, sym, ap, ap₂, ◌∙◌, subst}
use mathlib.Core.Bool.{Bool, true, false, cond}
use mathlib.Core.List.{List, [], ◌∷◌, map, map-append, Memᴰ}
use Prim.Native.Nat.{ℕ, suc, ◌+◌, ◌-◌, ◌≤◌, ◌<◌}
use native.Mathlib.Nat.{zero-add}
use native.Mathlib.Numerals.{add-one}
use native.Mathlib.Omega.{arith}
use lib.Dec.{T, eqb, ltb, eqb→eq, ltb→lt}
use lib.ListN.{length, get_or, take, drop, replicate, set, length-append, length-map}
use lib.Seq.{take-suc, drop-cons, get_or-take, length-take-le, drop-length}
use borrow.Author.Tests.{eq-eqb, ne_eqb}
use Rattle.promise.specs.Member.{member}
use Rattle.promise.proofs.Tests.{true_is, is_true, every, every_mem, of-member}
use Rattle.refusals.specs.Refusals.{refusal_number, passed, carrying, no_refusal}
use Rattle.refusals.specs.declared.Reason.TheVariants.{InvalidEc}
use Rattle.refusals.specs.declared.Refusal.{Refusal}
use Rattle.records.specs.Rows.{record_of, meets, refusal_of}
use Rattle.records.specs.Sets.{set_room, no_record, records_of}
use Rattle.records.specs.declared.Record.{Record}
use Rattle.records.specs.declared.Records.{Records}
use Rattle.records.specs.declared.Row.{Row}
use Rattle.records.proofs.Laws.{pushed, pushed_all, pushed-all, pushed-last, pushed-count, written}
use Rattle.tables.specs.Shape.{Table}
use Rattle.tables.specs.Applying.{rows_for}
use Rattle.tables.specs.Tables.{top_rows, reserved, Served, layouts, msr}
use Rattle.layouts.specs.Layouts.{layout_room, pad, layout_for}
use Rattle.layouts.specs.Layouts.{tables_of, table_of, empty, number_in, layout_number}
use Rattle.layouts.specs.declared.Layout.{Layout}
use Rattle.layouts.proofs.Indices.{rows_at, layout-rows, few-rows}
use Rattle.esr.specs.Decode.{first_failure, refused, accepted, failure_for, records_for, table_answer, class_of, iss_of, class_answer, answer_of}
use Rattle.esr.specs.declared.Answer.{Answer}

-- The checks.

-- a row that is not met gives the answer, and one that is met leaves it to the rest
module _ (v : ℕ) (rows : List Row) (ks : List ℕ) (n i : ℕ) (b : Bool) (within : n ≤ length ks) (less : i < n)
    (is : b ≡ meets v (get_or rows (get_or ks i 0) pad)) where
  step : first_failure v (rows_at rows (drop i (take n ks)))
      ≡ cond b (first_failure v (rows_at rows (drop (i + 1) (take n ks)))) (refusal_of v (get_or rows (get_or ks i 0) pad))
  unfolding first_failure
  step =
      let l : length (take n ks) ≡ n = length-take-le n ks within in
      let h : i < length (take n ks) = omega arith in
      rw (add-one, drop-cons (take n ks) i 0 h, get_or-take n ks i 0 less, ← is) refl

  pub check-fails : b ≡ false → first_failure v (rows_at rows (drop i (take n ks))) ≡ refusal_of v (get_or rows (get_or ks i 0) pad)
  check-fails h = step ∙ rw h refl

  pub check-passes : b ≡ true → first_failure v (rows_at rows (drop i (take n ks))) ≡ first_failure v (rows_at rows (drop (i + 1) (take n ks)))
  check-passes h = step ∙ rw h refl

pub checks-done : (v : ℕ) (rows : List Row) (ks : List ℕ) (n : ℕ) → n ≤ length ks → first_failure v (rows_at rows (drop n (take n ks))) ≡ no_refusal
unfolding first_failure
checks-done v rows ks n h =
    let e : length (take n ks) ≡ n = length-take-le n ks h in
    ap (λ (k : ℕ). first_failure v (rows_at rows (drop k (take n ks)))) (sym e) ∙ ap (λ (js : List ℕ). first_failure v (rows_at rows js)) (drop-length (take n ks))

-- The walk.

pub walk_count : (v : ℕ) (s : Records) (rows : List Row) (i : ℕ) → i ≤ length rows → s.count + i ≤ set_room
    → (pushed_all s (map (record_of v) (take i rows))).count ≡ s.count + i
walk_count v s rows i h k =
    let l : length (map (record_of v) (take i rows)) ≡ i = length-map (take i rows) (record_of v) ∙ length-take-le i rows h in
    omega (arith, pushed-count s (map (record_of v) (take i rows)) (omega arith))

-- a row's record written after those of the rows before it
pub walk_more : (v : ℕ) (s out : Records) (rows : List Row) (i : ℕ) (x : Record)
    → out ≡ pushed_all s (map (record_of v) (take i rows)) → x ≡ record_of v (get_or rows i pad)
    → i < length rows → s.count + i < set_room
    → record { items = set out.items out.count x; count = out.count + 1 } ≡ pushed_all s (map (record_of v) (take (i + 1) rows))
walk_more v s out rows i x o e h k =
    let n : out.count ≡ s.count + i = ap (λ (r : Records). r.count) o ∙ walk_count v s rows i (omega arith) (omega arith) in
    written out x (omega arith)
    ∙ ap₂ pushed o e
    ∙ sym (pushed-last s (map (record_of v) (take i rows)) (record_of v (get_or rows i pad)))
    ∙ ap (pushed_all s)
    (sym (map-append (record_of v) (take i rows) (get_or rows i pad ∷ []))
    ∙ ap (map (record_of v)) (sym (take-suc rows i pad h) ∙ ap (λ (m : ℕ). take m rows) (sym (add-one i))))

-- the top records and ISS's own after them are all records of the table
unfoldable pub walked : Records → ℕ → Layout → Records
walked top iss l = pushed_all top (map (record_of iss) (take l.count l.rows))

module _ (number iss : ℕ) (l : Layout) (is : l ≡ layout_for (table_of number) iss) where
  pub laid-records : (esr : ℕ) (top all : Records) → top ≡ records_of (map (record_of esr) (top_rows l.rule)) → all ≡ walked top iss l
      → all ≡ records_of (records_for (table_of number) esr iss)
  unfolding layout_for walked records_for top_rows
  laid-records esr top all above walk =
      let rows : List Row = rows_for (table_of number) iss in
      let rule : ℕ = (table_of number).iss_rule in
      let few : length rows ≤ layout_room = few-rows number iss l is in
      let own : length (map (record_of iss) rows) ≡ length rows = length-map rows (record_of iss) in
      walk
      ∙ ap₂ (λ (s : Records) (rs : List Row). pushed_all s (map (record_of iss) rs))
      (above ∙ ap (λ (x : Layout). records_of (map (record_of esr) (top_rows x.rule))) is) (layout-rows number iss l is)
      ∙ pushed-all (map (record_of esr) (top_rows rule)) (map (record_of iss) rows) (omega arith)

pub top_count : (esr rule : ℕ) (top : Records) → top ≡ records_of (map (record_of esr) (top_rows rule)) → top.count ≡ 5
unfolding top_rows records_of
top_count esr rule top is = ap (λ (s : Records). s.count) is

-- The answer.

module _ (t : Table) (esr iss : ℕ) (f : Refusal) (is : f ≡ failure_for t iss) where
  pub read-fails : (refusal_number f ≡ 0 → ⊥) → refused f ≡ table_answer t esr iss
  unfolding table_answer
  read-fails h = rw (← is) (rw (ne_eqb (refusal_number f) 0 h) refl)

  pub read-passes : refusal_number f ≡ 0 → accepted (records_for t esr iss) ≡ table_answer t esr iss
  unfolding table_answer
  read-passes h = rw (← is) (rw (eq-eqb (refusal_number f) 0 h) refl)

-- "acceptance of a class equals a filled place": the class table's number is counted as the class is looked up, among layouts numbered from n.
data LookedUp (esr n : ℕ) (ss : List Served) : Type 0 where
  missing : number_in n ss (class_of esr) ≡ empty → class_answer ss esr ≡ refused (carrying InvalidEc (class_of esr)) → LookedUp esr n ss
  found : (k : ℕ) → k < length ss → number_in n ss (class_of esr) ≡ n + k → class_answer ss esr ≡ table_answer (get_or (tables_of ss) k msr) esr (iss_of esr)
      → LookedUp esr n ss

looked-up : (esr n : ℕ) (ss : List Served) → LookedUp esr n ss
unfolding class_answer
looked-up esr n [] = missing refl refl
looked-up esr n (s ∷ ss) = by (member (class_of esr) s.classes) refl (looked-up esr (suc n) ss)
  where
    number : (b : Bool) → member (class_of esr) s.classes ≡ b → number_in n (s ∷ ss) (class_of esr) ≡ cond b n (number_in (suc n) ss (class_of esr))
    number b e = ap (λ (c : Bool). cond c n (number_in (suc n) ss (class_of esr))) e

    answer : (b : Bool) → member (class_of esr) s.classes ≡ b → class_answer (s ∷ ss) esr ≡ cond b (table_answer s.table esr (iss_of esr)) (class_answer ss esr)
    answer b e = ap (λ (c : Bool). cond c (table_answer s.table esr (iss_of esr)) (class_answer ss esr)) e

    by : (b : Bool) → member (class_of esr) s.classes ≡ b → LookedUp esr (suc n) ss → LookedUp esr n (s ∷ ss)
    by true e rest = found 0 (omega arith) (number true e ∙ omega arith) (answer true e)
    by false e (missing p q) = missing (number false e ∙ p) (answer false e ∙ q)
    by false e (found k l p q) = found (suc k) (omega arith) (number false e ∙ p ∙ omega arith) (answer false e ∙ q)

nineteen : length layouts ≡ 19
unfolding layouts
nineteen = refl

-- A class is served exactly if its slot of the class table is filled.

number_less : (n c : ℕ) (s : Served) (ss : List Served) → Memᴰ s ss → T (member c s.classes) → number_in n ss c < n + length ss
number_less n c s [] m t = elim m [ ]
number_less n c s (x ∷ xs) (Memᴰ.head e) t =
    subst (λ (b : Bool). cond b n (number_in (suc n) xs c) < n + suc (length xs))
    (sym (true_is (member c x.classes) (subst (λ (y : Served). T (member c y.classes)) e t))) (omega arith)
number_less n c s (x ∷ xs) (Memᴰ.tail m) t = by (member c x.classes) (number_less (suc n) c s xs m t)
  where
    by : (b : Bool) → number_in (suc n) xs c < suc n + length xs → cond b n (number_in (suc n) xs c) < n + suc (length xs)
    by true h = omega arith
    by false h = omega arith

pub served-filled : (c : ℕ) (s : Served) → Memᴰ s layouts → T (member c s.classes) → layout_number c ≡ empty → ⊥
unfolding layout_number
served-filled c s m t e = omega (arith, number_less 0 c s layouts m t, nineteen, e)

number-serves : (n c : ℕ) (ss : List Served) → (number_in n ss c ≡ empty → ⊥) → (s : Served) × Memᴰ s ss × T (member c s.classes)
number-serves n c [] h = absurd (h refl)
number-serves n c (x ∷ xs) h = by (member c x.classes) refl h (number-serves (suc n) c xs)
  where
    by : (b : Bool) → member c x.classes ≡ b → (cond b n (number_in (suc n) xs c) ≡ empty → ⊥)
        → ((number_in (suc n) xs c ≡ empty → ⊥) → (s : Served) × Memᴰ s xs × T (member c s.classes))
        → (s : Served) × Memᴰ s (x ∷ xs) × T (member c s.classes)
    by true e k rest = (x, Memᴰ.head refl, is_true e)
    by false e k rest = let r : _ = rest k in (r.0, Memᴰ.tail r.1, r.2)

pub filled-served : (c : ℕ) → (layout_number c ≡ empty → ⊥) → (s : Served) × Memᴰ s layouts × T (member c s.classes)
unfolding layout_number
filled-served c h = number-serves 0 c layouts h

-- no layout serves a class of more than six bits
six_bits_lem : T (every (λ i s. every (λ j c. ltb c 64) 0 s.classes) 0 layouts)
unfolding layouts
six_bits_lem = tt

pub past-empty : (c : ℕ) → 64 ≤ c → layout_number c ≡ empty
past-empty c h = by (eqb (layout_number c) empty) refl
  where
    by : (b : Bool) → eqb (layout_number c) empty ≡ b → layout_number c ≡ empty
    by true e = eqb→eq (layout_number c) empty (is_true e)
    by false e =
        let f : _ = filled-served c (λ q. let z : true ≡ false = sym (eq-eqb (layout_number c) empty q) ∙ e in subst T z tt) in
        let s : Served = f.0 in
        let t : _ = every_mem (λ i s. every (λ j c. ltb c 64) 0 s.classes) s 0 layouts six_bits_lem f.1 in
        let u : _ = every_mem (λ j c. ltb c 64) c 0 s.classes t.1 (of-member c s.classes f.2) in
        absurd (omega (arith, ltb→lt c 64 u.1))

module _ (esr number : ℕ) (n : number ≡ layout_number (class_of esr)) where
  pub class-empty : number ≡ empty → refused (carrying InvalidEc (class_of esr)) ≡ class_answer layouts esr
  unfolding layout_number
  class-empty h = by (looked-up esr 0 layouts)
    where
      by : LookedUp esr 0 layouts → refused (carrying InvalidEc (class_of esr)) ≡ class_answer layouts esr
      by (missing p q) = sym q
      by (found k l p q) = absurd (omega (arith, nineteen, p, n, h))

  pub class-filled : (number ≡ empty → ⊥) → table_answer (table_of number) esr (iss_of esr) ≡ class_answer layouts esr
  unfolding layout_number table_of
  class-filled h = by (looked-up esr 0 layouts)
    where
      by : LookedUp esr 0 layouts → table_answer (table_of number) esr (iss_of esr) ≡ class_answer layouts esr
      by (missing p q) = absurd (h (n ∙ p))
      by (found k l p q) = ap (λ (i : ℕ). table_answer (get_or (tables_of layouts) i msr) esr (iss_of esr)) (n ∙ p ∙ zero-add k) ∙ sym q

-- bits 37 .. 64
pub top-fails : (esr : ℕ) → meets esr reserved ≡ false → refused (refusal_of esr reserved) ≡ answer_of esr
unfolding answer_of
top-fails esr h = rw h refl

pub top-passes : (esr : ℕ) → meets esr reserved ≡ true → class_answer layouts esr ≡ answer_of esr
unfolding answer_of
top-passes esr h = rw h refl

-- What holds of every refusal, and of every answer that a layout's table accepts, holds of every answer.

module _ (P : Answer → Type 0) (bad : (f : Refusal) → P (refused f)) where
  either : (b : Bool) (x y : Answer) → P x → P y → P (cond b x y)
  either true x y p q = p
  either false x y p q = q

  class-has : (ss : List Served) → ((s : Served) → Memᴰ s ss → (esr iss : ℕ) → P (accepted (records_for s.table esr iss))) → (esr : ℕ) → P (class_answer ss esr)
  unfolding class_answer table_answer
  class-has [] good esr = bad (carrying InvalidEc (class_of esr))
  class-has (s ∷ ss) good esr =
      let f : Refusal = failure_for s.table (iss_of esr) in
      let a : Answer = accepted (records_for s.table esr (iss_of esr)) in
      either (member (class_of esr) s.classes) (cond (passed f) a (refused f)) (class_answer ss esr)
      (either (passed f) a (refused f) (good s (Memᴰ.head refl) esr (iss_of esr)) (bad f)) (class-has ss (λ x m. good x (Memᴰ.tail m)) esr)

  pub answer-has : ((s : Served) → Memᴰ s layouts → (esr iss : ℕ) → P (accepted (records_for s.table esr iss))) → (esr : ℕ) → P (answer_of esr)
  unfolding answer_of
  answer-has good esr =
      either (meets esr reserved) (class_answer layouts esr) (refused (refusal_of esr reserved)) (class-has layouts good esr) (bad (refusal_of esr reserved))

-- Every set that the decoder gives has room for what it counts: a set is a list and the empty slots after it, and its slots are 19.

abbrev pub Roomy : Answer → Type 0
Roomy a = length a.records.items ≡ set_room → a.records.count ≤ set_room

of-list : (l : List Record) → length (records_of l).items ≡ set_room → (records_of l).count ≤ set_room
unfolding records_of
of-list l h = omega (arith, length-append l (replicate (set_room - length l) no_record))

pub answer-room : (esr : ℕ) → Roomy (answer_of esr)
unfolding refused accepted
answer-room = answer-has Roomy (λ f. of-list []) (λ s m esr iss. of-list (records_for s.table esr iss))
