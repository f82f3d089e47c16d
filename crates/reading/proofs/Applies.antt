-- The rows that apply to a value are those that the decoder keeps: a condition holds of the value's bits exactly where its computed
-- test passes at ISS, since every test of every table lies in ISS.
use Rattle.std.proofs.Common.{◌≡◌, ℕ, suc, ◌+◌, ◌≤◌, Bool, true, false, cond, not, ◌&&◌, T, eqb, leb, ◌⊎◌, List, [], ◌∷◌, sym, refl, ap, ◌∙◌, subst, inl, inr, eqb→eq, leb→le, T_not, eq-eqb}
use mathlib.Core.List.Memᴰ
use mathlib.Core.List.{Memᴰ}
use lib.Dec.{not_T}
use Rattle.promise.specs.Member.{member}
use Rattle.promise.proofs.Tests.{both_left, both_right, both_intro, true_is, false_is, is_true, or_left, or_right, member_of, of-member, every, every_mem}
use Rattle.texts.specs.Rules.{Text}
use Rattle.texts.specs.Pool.{on_list, describes, rule_at}
use Rattle.refusals.specs.Refusals.{reason_number}
use Rattle.records.specs.Bits.{field_of}
use Rattle.records.specs.Kinds.{Kind, Free, Unchecked, Checked, Coded, kind_of}
use Rattle.records.specs.Rows.{row_kind}
use Rattle.records.specs.declared.Row.{Row}
use Rattle.tables.specs.Shape.{Test, Condition, Line}
use Rattle.tables.specs.Applying.{passes, met, keep}
use Rattle.tables.specs.Tables.{Served, layouts, res0, wf, mcr, mcrr, ldc, sve, ld64b, bti, pauth, hvc, brk, fp, breakpoint, software_step, watchpoint, instruction_abort, data_abort, serror, msr}
use Rattle.reading.specs.Refusing.{refusing}
use Rattle.reading.specs.Reading.{Holding, Fulfils, Meets, Applying, none, there, away, Listed}
use Rattle.reading.proofs.HasBits.{bits_is, bits-of, inner}

-- A value on the list of a rule, and its computed test.

on_list_lem : (x : Text) (ts : List Text) → Memᴰ x ts → T (on_list ts x.value)
unfolding on_list
on_list_lem x [] m = elim m [ ]
on_list_lem x (t ∷ ts) (Memᴰ.head e) =
    or_left (eqb x.value t.value) (on_list ts x.value) (is_true (eq-eqb x.value t.value (ap (λ (y : Text). y.value) e)))
on_list_lem x (t ∷ ts) (Memᴰ.tail m) = or_right (eqb x.value t.value) (on_list ts x.value) (on_list_lem x ts m)

pub listed-describes : {rule value : ℕ} → Listed rule value → T (describes rule value)
unfolding describes
listed-describes {rule} {value} l = on_list_lem (record { value = value; text = l.text }) (rule_at rule).texts l.among

record Among (ts : List Text) (v : ℕ) : Type 0 where
  entry : Text
  its : v ≡ entry.value
  among : Memᴰ entry ts

among-list : (ts : List Text) (v : ℕ) → T (on_list ts v) → Among ts v
unfolding on_list
among-list [] v t = absurd t
among-list (x ∷ xs) v t = by (eqb v x.value) refl t (among-list xs v)
  where
    by : (b : Bool) → eqb v x.value ≡ b → T (cond b true (on_list xs v)) → (T (on_list xs v) → Among xs v) → Among (x ∷ xs) v
    by true e s rest = record { entry = x; its = eqb→eq v x.value (is_true e); among = Memᴰ.head refl }
    by false e s rest = record { entry = (rest s).entry; its = (rest s).its; among = Memᴰ.tail (rest s).among }

pub describes-listed : (rule value : ℕ) → T (describes rule value) → Listed rule value
unfolding describes
describes-listed rule value t =
    let a : Among (rule_at rule).texts value = among-list (rule_at rule).texts value t in
    record { text = a.entry.text; among = subst (λ (n : ℕ). Memᴰ (record { value = n; text = a.entry.text }) (rule_at rule).texts) (sym a.its) a.among }

-- What every line of every table keeps to: its tests and its row lie in ISS, and a coded row refuses by a number of those that refuse a value.

abbrev within : ℕ → Condition → Bool
within i c = leb (c.test.start + c.test.width) 25

abbrev pub numbered : Kind → Bool
numbered Free = true
numbered (Coded reason) = member (reason_number reason) refusing
numbered Checked = true
numbered Unchecked = true

abbrev pub fitting : Row → Bool
fitting r = leb (r.start + r.width) 25 && numbered (row_kind r)

abbrev fitted : ℕ → Line → Bool
fitted i l = every within 0 l.conditions && fitting l.row

abbrev fitted_table : ℕ → Served → Bool
fitted_table i s = every fitted 0 s.table.lines

-- the computed test
all-fitted : T (every fitted_table 0 layouts)
unfolding layouts res0 wf mcr mcrr ldc sve ld64b bti pauth hvc brk fp breakpoint software_step watchpoint instruction_abort data_abort serror msr kind_of
all-fitted = tt

pub fitted-lines : {s : Served} → Memᴰ s layouts → T (every fitted 0 s.table.lines)
fitted-lines {s} m = (every_mem fitted_table s 0 layouts all-fitted m).1

-- a test at ISS
abbrev pub at_iss : ℕ → Test → Bool
at_iss v = passes (field_of v 0 25)

module _ (v : ℕ) where
  -- A test holds of a value exactly where it passes at ISS.
  test-holds : (t : Test) → t.start + t.width ≤ 25 → Holding v t → T (at_iss v t)
  unfolding passes
  test-holds t h k =
      subst (λ (n : ℕ). T (member n t.among)) (bits_is k.has ∙ sym (inner 25 v t.start t.width h)) (member_of _ t.among k.among)

  test-passes : (t : Test) → t.start + t.width ≤ 25 → T (at_iss v t) → Holding v t
  unfolding passes
  test-passes t h k =
      record {
        value = field_of v t.start t.width;
        has = bits-of v t.start t.width;
        among = of-member _ t.among (subst (λ (n : ℕ). T (member n t.among)) (inner 25 v t.start t.width h) k);
      }

  -- A condition is fulfilled by a value exactly where its test says so at ISS.
  fulfils : (t : Test) → t.start + t.width ≤ 25 → (b : Bool)
      → (Fulfils v t b → T (cond b (at_iss v t) (not (at_iss v t)))) × (T (cond b (at_iss v t) (not (at_iss v t))) → Fulfils v t b)
  fulfils t h true = (test-holds t h, test-passes t h)
  fulfils t h false = (λ n. not_T (at_iss v t) (λ k. n (test-passes t h k)), λ n k. T_not (at_iss v t) n (test-holds t h k))

  meets-met : (i : ℕ) (cs : List Condition) → T (every within i cs) → (Meets v cs → T (met (at_iss v) cs)) × (T (met (at_iss v) cs) → Meets v cs)
  meets-met i [] w = (λ m. tt, λ m. tt)
  meets-met i (c ∷ cs) w =
      let p : _ = fulfils c.test (leb→le _ 25 (both_left (within i c) (every within (suc i) cs) w)) c.holds in
      let q : _ = meets-met (suc i) cs (both_right (within i c) (every within (suc i) cs) w) in
      let a : Bool = cond c.holds (at_iss v c.test) (not (at_iss v c.test)) in
      let b : Bool = met (at_iss v) cs in
      (λ m. both_intro a b (p.0 m.0) (q.0 m.1), λ m. (p.1 (both_left a b m), q.1 (both_right a b m)))

  module _ (l : Line) (i : ℕ) (t : T (fitted i l)) where
    line-met : (Meets v l.conditions → T (met (at_iss v) l.conditions)) × (T (met (at_iss v) l.conditions) → Meets v l.conditions)
    line-met = meets-met 0 l.conditions (both_left (every within 0 l.conditions) _ t)

  -- The rows that apply are those that are kept.
  pub applying-is : (i : ℕ) (ls : List Line) (rs : List Row) → T (every fitted i ls) → Applying v ls rs → rs ≡ keep (at_iss v) ls
  applying-is i [] rs t none = refl
  applying-is i (l ∷ ls) rs t (there m a) =
      ap (λ (xs : List Row). l.row ∷ xs) (applying-is (suc i) ls _ (both_right (fitted i l) _ t) a)
      ∙ sym (ap (λ (b : Bool). cond b (l.row ∷ keep (at_iss v) ls) (keep (at_iss v) ls))
      (true_is (met (at_iss v) l.conditions) ((line-met l i (both_left (fitted i l) _ t)).0 m)))
  applying-is i (l ∷ ls) rs t (away m a) =
      applying-is (suc i) ls rs (both_right (fitted i l) _ t) a
      ∙ sym (ap (λ (b : Bool). cond b (l.row ∷ keep (at_iss v) ls) (keep (at_iss v) ls))
      (false_is (met (at_iss v) l.conditions) (λ k. m ((line-met l i (both_left (fitted i l) _ t)).1 k))))

  pub applying-of : (i : ℕ) (ls : List Line) → T (every fitted i ls) → Applying v ls (keep (at_iss v) ls)
  applying-of i [] t = none
  applying-of i (l ∷ ls) t =
      by (met (at_iss v) l.conditions) refl (line-met l i (both_left (fitted i l) _ t)) (applying-of (suc i) ls (both_right (fitted i l) _ t))
    where
      by : (b : Bool) → met (at_iss v) l.conditions ≡ b
          → (Meets v l.conditions → T (met (at_iss v) l.conditions)) × (T (met (at_iss v) l.conditions) → Meets v l.conditions)
          → Applying v ls (keep (at_iss v) ls) → Applying v (l ∷ ls) (cond b (l.row ∷ keep (at_iss v) ls) (keep (at_iss v) ls))
      by true e w rest = there (w.1 (is_true e)) rest
      by false e w rest = away (λ m. subst T e (w.0 m)) rest

-- the kept rows keep to what the lines keep to
pub kept-fitting : (f : Test → Bool) (i : ℕ) (ls : List Line) → T (every fitted i ls) → (r : Row) → Memᴰ r (keep f ls) → T (fitting r)
kept-fitting f i [] t r m = absurd (Memᴰ.not-nil m)
kept-fitting f i (l ∷ ls) t r m = by (met f l.conditions) m (kept-fitting f (suc i) ls (both_right (fitted i l) _ t) r)
  where
    split : (r ≡ l.row) ⊎ Memᴰ r (keep f ls) → (Memᴰ r (keep f ls) → T (fitting r)) → T (fitting r)
    split (inl e) rest = subst (λ (x : Row). T (fitting x)) (sym e) (both_right (every within 0 l.conditions) _ (both_left (fitted i l) _ t))
    split (inr k) rest = rest k

    by : (b : Bool) → Memᴰ r (cond b (l.row ∷ keep f ls) (keep f ls)) → (Memᴰ r (keep f ls) → T (fitting r)) → T (fitting r)
    by true m rest = split (Memᴰ.cases_cons m) rest
    by false m rest = rest m
