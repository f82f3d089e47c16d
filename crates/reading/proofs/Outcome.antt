-- Every value has a reading and is accepted with it, or has a first failure and is refused by it; and it has no two of them. The answer is what the
-- first failure of all checks says, 37..64 and the class among them.
use Rattle.std.proofs.Common.{◌≡◌, ℕ, ◌+◌, Bool, true, false, cond, T, leb, ◌⊎◌, List, [], ◌∷◌, ◌++◌, map, sym, refl, ap, ◌∙◌, subst, inl, inr, ne_eqb}
use mathlib.Core.List.Memᴰ
use mathlib.Core.List.{map-append, Memᴰ}
use Rattle.promise.specs.Member.{member}
use Rattle.promise.proofs.Tests.{true_is, false_is, both_right, member_of, of-member}
use Rattle.texts.specs.Rules.{class_name}
use Rattle.texts.specs.Pool.{describes}
use Rattle.refusals.specs.Refusals.{refusal_number, passed, carrying, no_refusal}
use Rattle.refusals.specs.declared.Reason.TheVariants.{InvalidEc}
use Rattle.refusals.specs.declared.Refusal.{Refusal}
use Rattle.records.specs.Kinds.{kind_of}
use Rattle.records.specs.Rows.{record_of, meets, refusal_of, row_kind}
use Rattle.records.specs.declared.Record.{Record}
use Rattle.records.specs.declared.Row.{Row}
use Rattle.tables.specs.Applying.{rows_for, checks_for}
use Rattle.tables.specs.Tables.{top_rows, reserved, class, Served, layouts}
use Rattle.tables.proofs.Sound.{Sound, sound, sound-table}
use Rattle.esr.specs.Decode.{first_failure, refused, accepted, failure_for, records_for, table_answer, class_of, iss_of, class_answer, answer_of}
use Rattle.esr.specs.declared.Answer.{Answer}
use Rattle.reading.specs.Reading.{Classed, HoldAll, Reading}
use Rattle.reading.specs.Refusing.{refusing, Ordered, Checks, unserved as none_served, served, First, Refusing}
use Rattle.reading.proofs.Applies.{fitting, numbered, at_iss, fitted-lines, applying-is, applying-of, kept-fitting}
use Rattle.reading.proofs.Served.{ClassOf, unserved, served_by, class-of}
use Rattle.reading.proofs.Judge.{Each, each-cons, Pass, pass-first, first-is, pass_or_first, first-number, hold_all_is, hold_all_pass, hold_all_of, first-iss, records-iss}
use Rattle.reading.proofs.Ordered.{ordered_of, ordered-is, checked-among, checks-pass, pass-checks}

-- the rows of a table that apply to a value, and all checks of the value
abbrev pub rows_of : Served → ℕ → List Row
rows_of s esr = rows_for s.table (iss_of esr)

abbrev pub all_rows : Served → ℕ → List Row
all_rows s esr = top_rows s.table.iss_rule ++ rows_of s esr

abbrev pub all_checks : Served → ℕ → List Row
all_checks s esr = reserved ∷ class ∷ checks_for s.table (iss_of esr)

module _ (esr : ℕ) where
  class-met : T (describes class_name.number (class_of esr)) → meets esr class ≡ true
  unfolding meets kind_of
  class-met t = true_is (describes class_name.number (class_of esr)) t

  class-unmet : (T (describes class_name.number (class_of esr)) → ⊥) → meets esr class ≡ false
  unfolding meets kind_of
  class-unmet h = false_is (describes class_name.number (class_of esr)) h

  -- Where no layout serves the class.
  module _ (h : (s : Served) → Classed esr s → ⊥) (n : T (describes class_name.number (class_of esr)) → ⊥)
      (q : class_answer layouts esr ≡ refused (carrying InvalidEc (class_of esr))) where
    unserved-answer : answer_of esr ≡ refused (first_failure esr (reserved ∷ class ∷ []))
    unfolding answer_of first_failure refusal_of kind_of
    unserved-answer = by (meets esr reserved)
      where
        by : (b : Bool) → cond b (class_answer layouts esr) (refused (refusal_of esr reserved)) ≡ refused (cond b (cond (meets esr class) no_refusal (refusal_of esr class)) (refusal_of esr reserved))
        by true = q ∙ sym (ap (λ (c : Bool). refused (cond c no_refusal (refusal_of esr class))) (class-unmet n))
        by false = refl

    unserved-first : First esr (first_failure esr (reserved ∷ class ∷ [])) (reserved ∷ class ∷ [])
    unserved-first = by (pass_or_first esr (reserved ∷ class ∷ []))
      where
        by : Pass esr (reserved ∷ class ∷ []) ⊎ First esr (first_failure esr (reserved ∷ class ∷ [])) (reserved ∷ class ∷ [])
            → First esr (first_failure esr (reserved ∷ class ∷ [])) (reserved ∷ class ∷ [])
        by (inl p) = absurd (subst T (class-unmet n) (p class (Memᴰ.tail (Memᴰ.head refl))))
        by (inr f) = f

  -- Where a layout does.
  module _ (s : Served) (k : Classed esr s) where
    rows_fit : Each (λ r. T (fitting r)) (rows_of s esr)
    unfolding rows_for
    rows_fit = kept-fitting (at_iss esr) 0 s.table.lines (fitted-lines {s = s} k.layout)

    pub rows-sound : Sound (rows_of s esr) s.table.order
    rows-sound = sound s.table (sound-table {s = s} k.layout) (iss_of esr)

    checks-fit : Each (λ r. T (fitting r)) (checks_for s.table (iss_of esr))
    unfolding checks_for
    checks-fit r m = rows_fit r (checked-among (rows_of s esr) s.table.order r m)

    checks-numbered : Each (λ r. T (numbered (row_kind r))) (all_checks s esr)
    unfolding kind_of
    checks-numbered =
        each-cons (λ r. T (numbered (row_kind r))) reserved (class ∷ checks_for s.table (iss_of esr)) tt
        (each-cons (λ r. T (numbered (row_kind r))) class (checks_for s.table (iss_of esr)) tt
        (λ r m. both_right (leb (r.start + r.width) 25) _ (checks-fit r m)))

    served-answer : T (describes class_name.number (class_of esr)) → class_answer layouts esr ≡ table_answer s.table esr (iss_of esr)
        → answer_of esr ≡ cond (passed (first_failure esr (all_checks s esr))) (accepted (records_for s.table esr (iss_of esr))) (refused (first_failure esr (all_checks s esr)))
    unfolding answer_of table_answer failure_for first_failure refusal_of kind_of
    served-answer n q = by (meets esr reserved)
      where
        own : Refusal
        own = first_failure esr (checks_for s.table (iss_of esr))

        answer : Refusal → Answer
        answer f = cond (passed f) (accepted (records_for s.table esr (iss_of esr))) (refused f)

        by : (b : Bool) → cond b (class_answer layouts esr) (refused (refusal_of esr reserved)) ≡ answer (cond b (cond (meets esr class) own (refusal_of esr class)) (refusal_of esr reserved))
        by true = q ∙ ap answer (first-iss esr (checks_for s.table (iss_of esr)) checks-fit ∙ sym (ap (λ (c : Bool). cond c own (refusal_of esr class)) (class-met n)))
        by false = refl

    -- all rows of the reading are met exactly where all checks are
    rows-checks : Pass esr (all_rows s esr) → Pass esr (all_checks s esr)
    unfolding top_rows checks_for
    rows-checks p =
        each-cons (λ r. T (meets esr r)) reserved (class ∷ checks_for s.table (iss_of esr)) (p reserved (Memᴰ.head refl))
        (each-cons (λ r. T (meets esr r)) class (checks_for s.table (iss_of esr)) (p class (Memᴰ.tail (Memᴰ.tail (Memᴰ.head refl))))
        (pass-checks esr (rows_of s esr) s.table.order
        (λ r m. p r (Memᴰ.tail (Memᴰ.tail (Memᴰ.tail (Memᴰ.tail (Memᴰ.tail m))))))))

    checks-rows : Pass esr (all_checks s esr) → Pass esr (all_rows s esr)
    unfolding top_rows checks_for meets kind_of
    checks-rows p =
        let own : Pass esr (rows_of s esr) =
        checks-pass esr (rows_of s esr) s.table.order rows-sound.tile rows-sound.cover (λ r m. p r (Memᴰ.tail (Memᴰ.tail m))) in
        each-cons (λ r. T (meets esr r)) _ _ (p reserved (Memᴰ.head refl))
        (each-cons (λ r. T (meets esr r)) _ _ tt
        (each-cons (λ r. T (meets esr r)) _ _ (p class (Memᴰ.tail (Memᴰ.head refl)))
        (each-cons (λ r. T (meets esr r)) _ _ tt (each-cons (λ r. T (meets esr r)) _ _ tt own))))

    -- the records of the reading are those of the decoder
    all-records : records_for s.table esr (iss_of esr) ≡ map (record_of esr) (all_rows s esr)
    unfolding records_for
    all-records =
        ap (λ (xs : List Record). map (record_of esr) (top_rows s.table.iss_rule) ++ xs) (records-iss esr (rows_of s esr) rows_fit)
        ∙ sym (map-append (record_of esr) (top_rows s.table.iss_rule) (rows_of s esr))

    pass-reading : Pass esr (all_rows s esr) → Reading esr (map (record_of esr) (all_rows s esr))
    unfolding rows_for
    pass-reading p =
        record {
          served = s;
          classed = k;
          rows = rows_of s esr;
          applying = applying-of esr 0 s.table.lines (fitted-lines {s = s} k.layout);
          held = hold_all_of esr (all_rows s esr) p;
        }

    pub own-checks : Checks esr (all_checks s esr)
    unfolding rows_for checks_for
    own-checks = served k (applying-of esr 0 s.table.lines (fitted-lines {s = s} k.layout)) (ordered_of (rows_of s esr) s.table.order)

-- The readings of a value.

-- the rows of a reading are those of the layout that serves the class
pub record Rows (esr : ℕ) (l : List Record) : Type 0 where
  pub layout : Served
  pub classed : Classed esr layout
  pub list : l ≡ map (record_of esr) (all_rows layout esr)
  pub pass : Pass esr (all_rows layout esr)

pub reading-rows : (esr : ℕ) (l : List Record) → Reading esr l → Rows esr l
unfolding rows_for
reading-rows esr l r =
    let s : Served = r.served in
    let same : r.rows ≡ rows_of s esr = applying-is esr 0 s.table.lines r.rows (fitted-lines {s = s} r.classed.layout) r.applying in
    let held : HoldAll esr (all_rows s esr) l = subst (λ (rs : List Row). HoldAll esr (top_rows s.table.iss_rule ++ rs) l) same r.held in
    record { layout = s; classed = r.classed; list = hold_all_is esr (all_rows s esr) l held; pass = hold_all_pass esr (all_rows s esr) l held }

one-layout : (esr : ℕ) (a b : Served) → Classed esr a → Classed esr b → a ≡ b
one-layout esr a b j k = by (class-of esr)
  where
    by : ClassOf esr → a ≡ b
    by (unserved h n q) = absurd (h a j)
    by (served_by s c u n q) = u a j ∙ sym (u b k)

-- Two readings of a value are equal.
pub unique : (esr : ℕ) (l m : List Record) → Reading esr l → Reading esr m → l ≡ m
unique esr l m a b =
    let x : Rows esr l = reading-rows esr l a in
    let y : Rows esr m = reading-rows esr m b in
    x.list ∙ ap (λ (s : Served). map (record_of esr) (all_rows s esr)) (one-layout esr x.layout y.layout x.classed y.classed) ∙ sym y.list

-- The checks of a value.

checks_are : (esr : ℕ) (s : Served) → Classed esr s → (cs : List Row) → Checks esr cs → cs ≡ all_checks s esr
unfolding rows_for checks_for
checks_are esr s k cs (none_served h) = absurd (h s k)
checks_are esr s k all (served {s = x} {rows} {cs} j a o) =
    let same : rows ≡ rows_of x esr = applying-is esr 0 x.table.lines rows (fitted-lines {s = x} j.layout) a in
    ap (λ (xs : List Row). reserved ∷ class ∷ xs)
    (ordered-is (rows_of x esr) (rows-sound esr x j).tile x.table.order cs (subst (λ (rs : List Row). Ordered rs x.table.order cs) same o))
    ∙ ap (λ (y : Served). all_checks y esr) (one-layout esr x s j k)

one-checks : (esr : ℕ) (cs ds : List Row) → Checks esr cs → Checks esr ds → cs ≡ ds
one-checks esr cs ds (none_served h) (none_served g) = refl
one-checks esr cs ds (none_served h) (served {s} j a o) = absurd (h s j)
one-checks esr cs ds (served {s} j a o) d = checks_are esr s j _ (served j a o) ∙ sym (checks_are esr s j ds d)

-- No value is refused in two ways.
pub one-refusal : (esr : ℕ) (f g : Refusal) → Refusing esr f → Refusing esr g → f ≡ g
one-refusal esr f g a b =
    sym (first-is esr f a.checks a.first)
    ∙ ap (first_failure esr) (one-checks esr a.checks b.checks a.order b.order)
    ∙ first-is esr g b.checks b.first

-- a refusal of a value is by one of the numbers that refuse a value
class-numbered : Each (λ r. T (numbered (row_kind r))) (reserved ∷ class ∷ [])
unfolding kind_of
class-numbered = each-cons (λ r. T (numbered (row_kind r))) reserved (class ∷ []) tt (each-cons (λ r. T (numbered (row_kind r))) class [] tt (λ r m. absurd (Memᴰ.not-nil m)))

pub refusing-number : (esr : ℕ) (f : Refusal) → Refusing esr f → Memᴰ (refusal_number f) refusing
refusing-number esr f a = of-member (refusal_number f) refusing (by a.checks a.order a.first)
  where
    by : (cs : List Row) → Checks esr cs → First esr f cs → T (member (refusal_number f) refusing)
    by cs (none_served h) k = first-number esr f (reserved ∷ class ∷ []) class-numbered k
    by cs (served {s} j x o) k =
        first-number esr f (all_checks s esr) (checks-numbered esr s j) (subst (First esr f) (checks_are esr s j _ (served j x o)) k)

pub not_zero : (f : Refusal) → Memᴰ (refusal_number f) refusing → refusal_number f ≡ 0 → ⊥
not_zero f m e = subst (λ (n : ℕ). T (member n refusing)) e (member_of (refusal_number f) refusing m)

-- No value is both read and refused.
pub not_both : (esr : ℕ) (l : List Record) (f : Refusal) → Reading esr l → Refusing esr f → ⊥
not_both esr l f a b =
    let x : Rows esr l = reading-rows esr l a in
    let s : Served = x.layout in
    let e : f ≡ no_refusal =
    sym (first-is esr f b.checks b.first)
    ∙ ap (first_failure esr) (checks_are esr s x.classed b.checks b.order)
    ∙ pass-first esr (all_checks s esr) (rows-checks esr s x.classed x.pass) in
    not_zero f (refusing-number esr f b) (ap refusal_number e)

-- The decoder's answer.

pub data Outcome (esr : ℕ) : Type 0 where
  read : (l : List Record) → Reading esr l → answer_of esr ≡ accepted l → Outcome esr
  refuses : (f : Refusal) → Refusing esr f → answer_of esr ≡ refused f → Outcome esr

pub outcome : (esr : ℕ) → Outcome esr
outcome esr = by (class-of esr)
  where
    by : ClassOf esr → Outcome esr
    by (unserved h n q) =
        refuses (first_failure esr (reserved ∷ class ∷ []))
        (record { checks = reserved ∷ class ∷ []; order = none_served h; first = unserved-first esr h n q }) (unserved-answer esr h n q)
    by (served_by s k u n q) = judged (pass_or_first esr (all_checks s esr))
      where
        answer : Refusal → Answer
        answer f = cond (passed f) (accepted (records_for s.table esr (iss_of esr))) (refused f)

        judged : Pass esr (all_checks s esr) ⊎ First esr (first_failure esr (all_checks s esr)) (all_checks s esr) → Outcome esr
        judged (inl p) =
            read (map (record_of esr) (all_rows s esr)) (pass-reading esr s k (checks-rows esr s k p))
            (served-answer esr s k n q ∙ ap answer (pass-first esr (all_checks s esr) p) ∙ ap accepted (all-records esr s k))
        judged (inr f) =
            let g : Refusal = first_failure esr (all_checks s esr) in
            let a : Refusing esr g = record { checks = all_checks s esr; order = own-checks esr s k; first = f } in
            refuses g a (served-answer esr s k n q ∙ ap (λ (b : Bool). cond b (accepted (records_for s.table esr (iss_of esr))) (refused g)) (ne_eqb (refusal_number g) 0 (not_zero g (refusing-number esr g a))))
