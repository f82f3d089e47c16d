-- A refusal is given when 01's table says: the rows that refuse by a number have its field and lack its values, and SError's status is
-- checked before AET, by one computed test.
use Rattle.std.proofs.Common.{◌≡◌, ℕ, zero, suc, ◌<◌, ◌≤◌, Bool, true, false, cond, not, ◌&&◌, ◌||◌, T, eqb, ltb, ◌⊎◌, List, [], ◌∷◌, sym, refl, ap, ◌∙◌, subst, inl, inr, zero-add, arith, eqb→eq, T_not, ltb-false, ltb-true, eq-eqb}
use mathlib.Core.List.{Memᴰ}
use borrow.Author.Tests.{not-true}
use Rattle.promise.specs.Member.{member}
use Rattle.promise.proofs.Tests.{every, every_mem, both_left, both_right, from, from_at, true_is, is_true, of-member}
use Rattle.texts.specs.Rules.{rules, class_name, debug_status, fault_status, serror_status}
use Rattle.texts.specs.Pool.{describes, on_list, rule_at}
use Rattle.refusals.specs.Refusals.{reason_number, refusal_number, no_refusal}
use Rattle.refusals.specs.declared.Reason.{Reason}
use Rattle.refusals.specs.declared.Reason.TheVariants.{InvalidRes0, InvalidEc, InvalidFsc, InvalidSet, InvalidAet, InvalidAm, InvalidLd64bIss}
use Rattle.refusals.specs.declared.Refusal.{Refusal}
use Rattle.records.specs.Bits.{field_of}
use Rattle.records.specs.Rows.{row_kind}
use Rattle.records.specs.Kinds.{Kind, Free, Unchecked, Checked, Coded, reason_of, kind_of}
use Rattle.records.specs.declared.Row.{Row}
use Rattle.records.proofs.ByMark.{not_res0}
use Rattle.tables.specs.Shape.{Test, Condition, Line, Table}
use Rattle.tables.specs.Applying.{is_check}
use Rattle.tables.specs.Tables.{reserved, class, Served, layouts, res0, wf, mcr, mcrr, ldc, sve, ld64b, bti, pauth, hvc, brk, fp, breakpoint, software_step, watchpoint, instruction_abort, data_abort, serror, msr}
use Rattle.esr.specs.Promises.{Decoded}
use Rattle.esr.specs.declared.Answer.{Answer}
use Rattle.reading.specs.Reading.{HasBits, Holding, Fulfils, Meets, Applying, none, there, away, Listed, Allowed, Classed}
use Rattle.reading.specs.Refusing.{Names, Met, Unmet, not_zero, not_listed, CheckAt, Ordered, none, check, away, Checks, unserved, served, First, here, later, Refusing}
use Rattle.reading.specs.Given.{ClassIn, RowOf, at_top, in_iss, Reserved, aborts, debugs, NoStatus, of_abort, of_debug, of_serror, AetRead, GivenWhen}
use Rattle.reading.proofs.HasBits.{bits_is, bits-of}
use Rattle.reading.proofs.Applies.{describes-listed}
use Rattle.reading.proofs.Served.{ClassOf, unserved as none_serves, served_by, class-of}
use Rattle.reading.proofs.Ordered.{is_check-test, test-is-check}
use Rattle.reading.proofs.Reading.{refused-refusing}

-- The test of a line of a layout.

-- a test asks that the field is this number
abbrev just : ℕ → ℕ → ℕ → Test → Bool
just s w x t = eqb t.start s && (eqb t.width w && (member x t.among && every (λ i y. eqb y x) 0 t.among))

abbrev pub some : {A : Type 0} → (A → Bool) → List A → Bool
some p [] = false
some p (x ∷ xs) = p x || some p xs

-- a condition asks that a field is this number; one asks that a bit is 0
abbrev wants : ℕ → ℕ → ℕ → Condition → Bool
wants s w x c = c.holds && just s w x c.test

abbrev clears : ℕ → Condition → Bool
clears k c = not c.holds && just k 1 1 c.test

abbrev clear : ℕ → List Condition → Bool
clear k cs = some (clears k) cs

-- the number by which a kind refuses
abbrev pub kind_number : Kind → ℕ
kind_number k = reason_number (reason_of k)

abbrev at : ℕ → ℕ → Row → Bool
at s w r = eqb r.start s && eqb r.width w

abbrev only_for : List ℕ → List ℕ → Bool
only_for cs classes = every (λ i c. member c cs) 0 classes

abbrev lacks : List ℕ → ℕ → Row → Bool
lacks xs n r = from (λ x. describes r.rule x || member x xs) 0 n

abbrev for : ℕ → Row → Bool → Bool
for n r b = cond (eqb (kind_number (row_kind r)) n) b true

abbrev ruled : ℕ → List ℕ → List ℕ → Row → Bool
ruled rule cs classes r = eqb r.rule rule && only_for cs classes

abbrev test3 : List ℕ → Line → Bool
test3 classes l =
    at 0 6 l.row
    && (ruled fault_status.number aborts classes l.row
    || (ruled debug_status.number debugs classes l.row
    || (ruled serror_status.number (0x2F ∷ []) classes l.row && clear 24 l.conditions)))

abbrev test4 : List ℕ → Line → Bool
test4 classes l = at 11 2 l.row && (only_for aborts classes && (lacks (1 ∷ []) 4 l.row && some (wants 0 6 0x10) l.conditions))

-- the first check of a table is that of SError's status: its order starts at 0, where no row asks for anything else and one is there
-- wherever bit 24 is 0
abbrev first_is : ℕ → List ℕ → Bool
first_is s [] = false
first_is s (x ∷ xs) = eqb x s

abbrev status : Row → Bool
status r = at 0 6 r && (eqb r.rule serror_status.number && eqb (kind_number (row_kind r)) 3)

abbrev status_only : ℕ → Line → Bool
status_only i l = not (eqb l.row.start 0) || (not (is_check (row_kind l.row)) || status l.row)

abbrev status_there : Line → Bool
status_there l = (status l.row && is_check (row_kind l.row)) && every (λ i c. clears 24 c) 0 l.conditions

abbrev status_first : Table → Bool
status_first t = first_is 0 t.order && (every status_only 0 t.lines && some status_there t.lines)

abbrev test5 : Served → Line → Bool
test5 s l =
    at 10 3 l.row
    && (only_for (0x2F ∷ []) s.classes
    && (lacks (4 ∷ 5 ∷ 7 ∷ []) 8 l.row && (clear 24 l.conditions && status_first s.table)))

abbrev test6 : List ℕ → Row → Bool
test6 classes r = at 1 3 r && (only_for (0x06 ∷ []) classes && lacks (5 ∷ 7 ∷ []) 8 r)

abbrev test7 : List ℕ → Row → Bool
test7 classes r = at 0 25 r && (only_for (0x0A ∷ []) classes && lacks [] 3 r)

abbrev tested : Served → ℕ → Line → Bool
tested s i l =
    for 2 l.row false
    && (for 3 l.row (test3 s.classes l)
    && (for 4 l.row (test4 s.classes l)
    && (for 5 l.row (test5 s l)
    && (for 6 l.row (test6 s.classes l.row)
    && for 7 l.row (test7 s.classes l.row)))))

abbrev tested_table : ℕ → Served → Bool
tested_table i s = every (tested s) 0 s.table.lines

-- the computed test
all_tested : T (every tested_table 0 layouts)
unfolding layouts res0 wf mcr mcrr ldc sve ld64b bti pauth hvc brk fp breakpoint software_step watchpoint instruction_abort data_abort serror msr rules describes on_list rule_at kind_of
all_tested = tt

-- What the test shows of a line whose row is not met.

for-at : (n : ℕ) (r : Row) (b : Bool) → T (for n r b) → kind_number (row_kind r) ≡ n → T b
for-at n r b t e = subst (λ (a : Bool). T (cond a b true)) (eq-eqb (kind_number (row_kind r)) n e) t

either : {A : Type 0} (a b : Bool) → T (a || b) → (T a → A) → (T b → A) → A
either true b t f g = f tt
either false b t f g = g t

or_else : (a b : Bool) → T (a || b) → (T a → ⊥) → T b
or_else a b t h = either a b t (λ x. absurd (h x)) (λ y. y)

pub bits_shifted : {v x a b s w : ℕ} → a ≡ s → b ≡ w → HasBits v a b x → HasBits v s w x
bits_shifted {v} {x} {a} {b} {s} {w} p q o = subst (λ (y : ℕ). HasBits v s y x) q (subst (λ (y : ℕ). HasBits v y b x) p o)

just-own : (v s w x : ℕ) (t : Test) → T (just s w x t) → Holding v t → HasBits v s w x
just-own v s w x t j m =
    let u : _ = both_right (eqb t.start s) _ j in
    let k : T (every (λ i y. eqb y x) 0 t.among) = both_right (member x t.among) _ (both_right (eqb t.width w) _ u) in
    subst (HasBits v s w) (eqb→eq m.value x (every_mem (λ i y. eqb y x) m.value 0 t.among k m.among).1)
    (bits_shifted (eqb→eq t.start s (both_left (eqb t.start s) _ j)) (eqb→eq t.width w (both_left (eqb t.width w) _ u)) m.has)

just-holds : (v s w x : ℕ) (t : Test) → T (just s w x t) → HasBits v s w x → Holding v t
just-holds v s w x t j o =
    let u : _ = both_right (eqb t.start s) _ j in
    record {
      value = x;
      has =
          bits_shifted (sym (eqb→eq t.start s (both_left (eqb t.start s) _ j))) (sym (eqb→eq t.width w (both_left (eqb t.width w) _ u))) o;
      among = of-member x t.among (both_left (member x t.among) _ (both_right (eqb t.width w) _ u));
    }

-- a bit that is not 1 is 0
bit-clear : (v k : ℕ) → (HasBits v k 1 1 → ⊥) → HasBits v k 1 0
bit-clear v k h = by (field_of v k 1) (bits-of v k 1)
  where
    by : (x : ℕ) → HasBits v k 1 x → HasBits v k 1 0
    by zero o = o
    by (suc zero) o = absurd (h o)
    by (suc (suc x)) o = let f : suc (suc x) < 2 = o.fits in absurd (omega arith)

pub some_mem : {A : Type 0} (p : A → Bool) (xs : List A) → T (some p xs) → (x : A) × Memᴰ x xs × T (p x)
some_mem p [] t = absurd t
some_mem p (x ∷ xs) t =
    either (p x) (some p xs) t (λ u. (x, mathlib.Core.List.Memᴰ.head refl, u))
    (λ u. let r : _ = some_mem p xs u in (r.0, mathlib.Core.List.Memᴰ.tail r.1, r.2))

meets_at : (v : ℕ) (c : Condition) (cs : List Condition) → Meets v cs → Memᴰ c cs → Fulfils v c.test c.holds
meets_at v c [] m n = elim n [ ]
meets_at v c (d ∷ ds) m (mathlib.Core.List.Memᴰ.head e) = subst (λ (x : Condition). Fulfils v x.test x.holds) (sym e) m.0
meets_at v c (d ∷ ds) m (mathlib.Core.List.Memᴰ.tail k) = meets_at v c ds m.1 k

-- conditions of which one wants a number, or that a bit is 0
wanted-bits : (v s w x : ℕ) (cs : List Condition) → T (some (wants s w x) cs) → Meets v cs → HasBits v s w x
wanted-bits v s w x cs t m =
    let f : _ = some_mem (wants s w x) cs t in
    let c : Condition = f.0 in
    just-own v s w x c.test (both_right c.holds _ f.2)
    (subst (Fulfils v c.test) (true_is c.holds (both_left c.holds _ f.2)) (meets_at v c cs m f.1))

not_held : (v : ℕ) (c : Condition) (b : Bool) → T (not c.holds && b) → c.holds ≡ false
not_held v c b t = not-true c.holds (true_is (not c.holds) (both_left (not c.holds) b t))

clear-bits : (v k : ℕ) (cs : List Condition) → T (clear k cs) → Meets v cs → HasBits v k 1 0
clear-bits v k cs t m =
    let f : _ = some_mem (clears k) cs t in
    let c : Condition = f.0 in
    let n : Fulfils v c.test false = subst (Fulfils v c.test) (not_held v c (just k 1 1 c.test) f.2) (meets_at v c cs m f.1) in
    bit-clear v k (λ o. n (just-holds v k 1 1 c.test (both_right (not c.holds) _ f.2) o))

clear-meets : (v k i : ℕ) (cs : List Condition) → T (every (λ j c. clears k c) i cs) → HasBits v k 1 0 → Meets v cs
clear-meets v k i [] t o = tt
clear-meets v k i (c ∷ cs) t o =
    let h : T (clears k c) = both_left (clears k c) _ t in (
      subst (Fulfils v c.test) (sym (not_held v c (just k 1 1 c.test) h))
          (λ m. omega (arith, bits_is (just-own v k 1 1 c.test (both_right (not c.holds) _ h) m), bits_is o)),
      clear-meets v k (suc i) cs (both_right (clears k c) _ t) o,
    )

unmet-bits : {v : ℕ} {row : Row} {f : Refusal} → Unmet v row f → HasBits v row.start row.width f.carries
unmet-bits (not_zero o k e b h) = o
unmet-bits (not_listed o k b h) = o

pub unmet-kind : {v : ℕ} {row : Row} {f : Refusal} → Unmet v row f → kind_number (row_kind row) ≡ refusal_number f
unmet-kind (not_zero o k e b h) = ap kind_number k ∙ sym (ap reason_number e)
unmet-kind (not_listed o k b h) = ap kind_number k

unmet-zero : {v : ℕ} {row : Row} {f : Refusal} → RowOf v row → Unmet v row f → f.reason ≡ InvalidRes0 → Reserved v f × (f.carries ≡ 0 → ⊥)
unmet-zero {v} {row} of (not_zero o k e b h) i = (record { row = row; of = of; kind = k; names = b; has = o }, h)
unmet-zero {v} {row} of (not_listed o k b h) i = absurd (not_res0 row.kind (k ∙ ap Coded i))

unmet-unnamed : {v : ℕ} {row : Row} {f : Refusal} → Unmet v row f → (f.reason ≡ InvalidRes0 → ⊥) → Names f 0 0
unmet-unnamed (not_zero o k e b h) i = absurd (i e)
unmet-unnamed (not_listed o k b h) i = b

unmet-list : {v : ℕ} {row : Row} {f : Refusal} → Unmet v row f → (refusal_number f ≡ 1 → ⊥) → Listed row.rule f.carries → ⊥
unmet-list (not_zero o k e b h) i = absurd (i (ap reason_number e))
unmet-list (not_listed o k b h) i = h

module _ (v : ℕ) (f : Refusal) (s : Served) (k : Classed v s) (i : ℕ) (l : Line) (m : Meets v l.conditions) (t : T (tested s i l))
    (of : RowOf v l.row) (u : Unmet v l.row f)
    (read : T (status_first s.table) → ClassIn v (0x2F ∷ []) → HasBits v 24 1 0 → f.reason ≡ InvalidAet → AetRead v) where
  bits_at : (a b : ℕ) → T (at a b l.row) → HasBits v a b f.carries
  bits_at a b x =
      let p : l.row.start ≡ a = eqb→eq l.row.start a (both_left (eqb l.row.start a) _ x) in
      let q : l.row.width ≡ b = eqb→eq l.row.width b (both_right (eqb l.row.start a) _ x) in
      bits_shifted p q (unmet-bits u)

  class_in : (cs : List ℕ) → T (only_for cs s.classes) → ClassIn v cs
  class_in cs x =
      record {
        class = k.class;
        has = k.has;
        among = of-member k.class cs (every_mem (λ j y. member y cs) k.class 0 s.classes x k.serves).1;
      }

  -- a row of a rule in some classes: the class of the value is one of them, and the rule does not list the number
  off_list : (rule : ℕ) (ks : List ℕ) → T (ruled rule ks s.classes l.row) → (refusal_number f ≡ 1 → ⊥) → ClassIn v ks × (Listed rule f.carries → ⊥)
  off_list rule ks x e = (
    class_in ks (both_right (eqb l.row.rule rule) _ x),
    λ y. unmet-list u e (subst (λ (k : ℕ). Listed k f.carries) (sym (eqb→eq l.row.rule rule (both_left (eqb l.row.rule rule) _ x))) y),
  )

  no_status : T (test3 s.classes l) → (refusal_number f ≡ 1 → ⊥) → NoStatus v f.carries
  no_status x e =
      either (ruled fault_status.number aborts s.classes l.row) _ (both_right (at 0 6 l.row) _ x)
      (λ y. let p : _ = off_list fault_status.number aborts y e in of_abort p.0 p.1)
      (λ y. either (ruled debug_status.number debugs s.classes l.row) _ y
      (λ z. let p : _ = off_list debug_status.number debugs z e in of_debug p.0 p.1)
      (λ z.
      let r : Bool = ruled serror_status.number (0x2F ∷ []) s.classes l.row in
      let p : _ = off_list serror_status.number (0x2F ∷ []) (both_left r _ z) e in
      of_serror p.0 (clear-bits v 24 l.conditions (both_right r _ z) m) p.1))

  value_in : (xs : List ℕ) (b : ℕ) → T (lacks xs b l.row) → f.carries < b → (refusal_number f ≡ 1 → ⊥) → Memᴰ f.carries xs
  value_in xs b x h e =
      let c : ℕ = f.carries in
      of-member c xs
      (or_else (describes l.row.rule c) (member c xs)
      (subst (λ (y : ℕ). T (describes l.row.rule y || member y xs)) (zero-add c) (from_at (λ y. describes l.row.rule y || member y xs) 0 b c x h))
      (λ y. unmet-list u e (describes-listed l.row.rule c y)))

  -- what the test says of a row that refuses by a number
  by_number : (n : ℕ) (reason : Reason) (b : Bool) → T (for n l.row b) → reason_number reason ≡ n → f.reason ≡ reason → T b
  by_number n reason b x e h = for-at n l.row b x (unmet-kind u ∙ ap reason_number h ∙ e)

  not_one : (n : ℕ) (reason : Reason) → reason_number reason ≡ suc (suc n) → f.reason ≡ reason → refusal_number f ≡ 1 → ⊥
  not_one n reason e h g = omega (arith, ap reason_number h)

  line-given : GivenWhen v f
  line-given =
      let r : Row = l.row in
      let cs : List ℕ = s.classes in
      let t3 : _ = both_right (for 2 r false) _ t in
      let t4 : _ = both_right (for 3 r (test3 cs l)) _ t3 in
      let t5 : _ = both_right (for 4 r (test4 cs l)) _ t4 in
      let t6 : _ = both_right (for 5 r (test5 s l)) _ t5 in
      let t7 : _ = both_right (for 6 r (test6 cs r)) _ t6 in
      record {
        invalid_res0 = unmet-zero of u;
        invalid_ec = λ e. absurd (by_number 2 InvalidEc false (both_left (for 2 r false) _ t) refl e);
        invalid_fsc =
            λ e.
            let x : T (test3 cs l) = by_number 3 InvalidFsc (test3 cs l) (both_left (for 3 r (test3 cs l)) _ t3) refl e in (
              bits_at 0 6 (both_left (at 0 6 r) _ x),
              no_status x (not_one 1 InvalidFsc refl e),
            );
        invalid_set =
            λ e.
            let x : T (test4 cs l) = by_number 4 InvalidSet (test4 cs l) (both_left (for 4 r (test4 cs l)) _ t4) refl e in
            let y : _ = both_right (at 11 2 r) _ x in
            let z : _ = both_right (only_for aborts cs) _ y in
            let o : HasBits v 11 2 f.carries = bits_at 11 2 (both_left (at 11 2 r) _ x) in (
              o,
              mathlib.Core.List.Memᴰ.eq_of_singleton (value_in (1 ∷ []) 4 (both_left (lacks (1 ∷ []) 4 r) _ z) o.fits (not_one 2 InvalidSet refl e)),
              wanted-bits v 0 6 0x10 l.conditions (both_right (lacks (1 ∷ []) 4 r) _ z) m,
              class_in aborts (both_left (only_for aborts cs) _ y),
            );
        invalid_aet =
            λ e.
            let x : T (test5 s l) = by_number 5 InvalidAet (test5 s l) (both_left (for 5 r (test5 s l)) _ t5) refl e in
            let y : _ = both_right (at 10 3 r) _ x in
            let z : _ = both_right (only_for (0x2F ∷ []) cs) _ y in
            let o : HasBits v 10 3 f.carries = bits_at 10 3 (both_left (at 10 3 r) _ x) in
            let w : _ = both_right (lacks (4 ∷ 5 ∷ 7 ∷ []) 8 r) _ z in (
              o,
              value_in (4 ∷ 5 ∷ 7 ∷ []) 8 (both_left (lacks (4 ∷ 5 ∷ 7 ∷ []) 8 r) _ z) o.fits (not_one 3 InvalidAet refl e),
              read (both_right (clear 24 l.conditions) _ w) (class_in (0x2F ∷ []) (both_left (only_for (0x2F ∷ []) cs) _ y))
                  (clear-bits v 24 l.conditions (both_left (clear 24 l.conditions) _ w) m) e,
            );
        invalid_am =
            λ e.
            let x : T (test6 cs r) = by_number 6 InvalidAm (test6 cs r) (both_left (for 6 r (test6 cs r)) _ t6) refl e in
            let y : _ = both_right (at 1 3 r) _ x in
            let o : HasBits v 1 3 f.carries = bits_at 1 3 (both_left (at 1 3 r) _ x) in (
              o,
              value_in (5 ∷ 7 ∷ []) 8 (both_right (only_for (0x06 ∷ []) cs) _ y) o.fits (not_one 4 InvalidAm refl e),
              class_in (0x06 ∷ []) (both_left (only_for (0x06 ∷ []) cs) _ y),
            );
        invalid_ld64b_iss =
            λ e.
            let x : T (test7 cs r) = by_number 7 InvalidLd64bIss (test7 cs r) t7 refl e in
            let y : _ = both_right (at 0 25 r) _ x in (
              bits_at 0 25 (both_left (at 0 25 r) _ x),
              above (ltb f.carries 3) refl (λ h. value_in [] 3 (both_right (only_for (0x0A ∷ []) cs) _ y) h (not_one 5 InvalidLd64bIss refl e)),
              class_in (0x0A ∷ []) (both_left (only_for (0x0A ∷ []) cs) _ y),
            );
        unnamed = unmet-unnamed u;
      }
    where
      above : (b : Bool) → ltb f.carries 3 ≡ b → (f.carries < 3 → Memᴰ f.carries []) → 2 < f.carries
      above true e h = absurd (mathlib.Core.List.Memᴰ.not-nil (h (ltb-true f.carries 3 e)))
      above false e h = let g : 3 ≤ f.carries = ltb-false f.carries 3 e in omega arith

-- The row of the first failure, and its line.

first-row : {v : ℕ} {f : Refusal} (rows : List Row) → First v f rows → (row : Row) × Memᴰ row rows × Unmet v row f
first-row {v} {f} [] m = elim m [ ]
first-row (r ∷ rs) (here u) = (r, mathlib.Core.List.Memᴰ.head refl, u)
first-row (r ∷ rs) (later m f) = let x : _ = first-row rs f in (x.0, mathlib.Core.List.Memᴰ.tail x.1, x.2)

ordered-among : (row : Row) (rows : List Row) (ss : List ℕ) (cs : List Row) → Ordered rows ss cs → Memᴰ row cs → Memᴰ row rows
ordered-among row rows [] cs none m = absurd (mathlib.Core.List.Memᴰ.not-nil m)
ordered-among row rows (s ∷ ss) cs (check a o) m = by a (mathlib.Core.List.Memᴰ.cases_cons m) (ordered-among row rows ss _ o)
  where
    by : {r : Row} {rs : List Row} → CheckAt rows s r → (row ≡ r) ⊎ Memᴰ row rs → (Memᴰ row rs → Memᴰ row rows) → Memᴰ row rows
    by {r} a (inl e) rest = subst (λ (x : Row). Memᴰ x rows) (sym e) a.among
    by a (inr k) rest = rest k
ordered-among row rows (s ∷ ss) cs (away h o) m = ordered-among row rows ss cs o m

pub record Of (v : ℕ) (ls : List Line) (row : Row) : Type 0 where
  pub line : Line
  pub among : Memᴰ line ls
  pub meets : Meets v line.conditions
  pub its : row ≡ line.row

pub applying-line : (v : ℕ) (row : Row) (ls : List Line) (rs : List Row) → Applying v ls rs → Memᴰ row rs → Of v ls row
applying-line v row [] rs none m = absurd (mathlib.Core.List.Memᴰ.not-nil m)
applying-line v row (l ∷ ls) rs (there c a) m = by c (mathlib.Core.List.Memᴰ.cases_cons m) (applying-line v row ls _ a)
  where
    by : {xs : List Row} → Meets v l.conditions → (row ≡ l.row) ⊎ Memᴰ row xs → (Memᴰ row xs → Of v ls row) → Of v (l ∷ ls) row
    by c (inl e) rest = record { line = l; among = mathlib.Core.List.Memᴰ.head refl; meets = c; its = e }
    by c (inr k) rest =
        record { line = (rest k).line; among = mathlib.Core.List.Memᴰ.tail (rest k).among; meets = (rest k).meets; its = (rest k).its }
applying-line v row (l ∷ ls) rs (away h a) m =
    let x : Of v ls row = applying-line v row ls rs a m in
    record { line = x.line; among = mathlib.Core.List.Memᴰ.tail x.among; meets = x.meets; its = x.its }

line-applying : (v : ℕ) (line : Line) (ls : List Line) (rs : List Row) → Applying v ls rs → Memᴰ line ls → Meets v line.conditions
    → Memᴰ line.row rs
line-applying v line [] rs none j m = absurd (mathlib.Core.List.Memᴰ.not-nil j)
line-applying v line (l ∷ ls) rs (there c a) j m = by (mathlib.Core.List.Memᴰ.cases_cons j) (λ k. line-applying v line ls _ a k m)
  where
    by : {xs : List Row} → (line ≡ l) ⊎ Memᴰ line ls → (Memᴰ line ls → Memᴰ line.row xs) → Memᴰ line.row (l.row ∷ xs)
    by (inl e) rest = mathlib.Core.List.Memᴰ.head (ap (λ (x : Line). x.row) e)
    by (inr k) rest = mathlib.Core.List.Memᴰ.tail (rest k)
line-applying v line (l ∷ ls) rs (away h a) j m = by (mathlib.Core.List.Memᴰ.cases_cons j) (λ k. line-applying v line ls rs a k m)
  where
    by : (line ≡ l) ⊎ Memᴰ line ls → (Memᴰ line ls → Memᴰ line.row rs) → Memᴰ line.row rs
    by (inl e) rest = absurd (h (subst (λ (x : Line). Meets v x.conditions) e m))
    by (inr k) rest = rest k

-- The status of an SError is read before AET.

status-kind : (row : Row) → T (status row) → kind_number (row_kind row) ≡ 3
status-kind row t = eqb→eq (kind_number (row_kind row)) 3 (both_right (eqb row.rule serror_status.number) _ (both_right (at 0 6 row) _ t))

-- what a kind that refuses by 3 asks is that its field is on the list
status-listed : (k : Kind) (rule value : ℕ) → kind_number k ≡ 3 → Allowed k rule value → Listed rule value
status-listed Free rule value e a = absurd (omega arith)
status-listed (Coded reason) rule value e a = a
status-listed Checked rule value e a = absurd (omega arith)
status-listed Unchecked rule value e a = absurd (omega arith)

module _ (v : ℕ) (table : Table) (rows : List Row) (a : Applying v table.lines rows) (t : T (status_first table))
    (i : ClassIn v (0x2F ∷ [])) (z : HasBits v 24 1 0) where
  -- what asks something at 0 asks for the status
  check-status : (row : Row) → CheckAt rows 0 row → T (status row)
  check-status row k =
      let x : Of v table.lines row = applying-line v row table.lines rows a k.among in
      let only : T (every status_only 0 table.lines) = both_left (every status_only 0 table.lines) _ (both_right (first_is 0 table.order) _ t) in
      let y : T (status_only 0 x.line) = (every_mem status_only x.line 0 table.lines only x.among).1 in
      let q : T (not (eqb row.start 0) || (not (is_check (row_kind row)) || status row)) =
      subst (λ (r : Row). T (not (eqb r.start 0) || (not (is_check (row_kind r)) || status r))) (sym x.its) y in
      or_else (not (is_check (row_kind row))) _
      (or_else (not (eqb row.start 0)) _ q (λ w. T_not (eqb row.start 0) w (is_true (eq-eqb row.start 0 k.starts))))
      (λ w. T_not (is_check (row_kind row)) w (is_check-test (row_kind row) k.is_check))

  -- where bit 24 is 0 there is a row that does
  status-check : (row : Row) × CheckAt rows 0 row
  status-check =
      let x : _ = some_mem status_there table.lines (both_right (every status_only 0 table.lines) _ (both_right (first_is 0 table.order) _ t)) in
      let r : Row = x.0.row in
      let y : T (status r && is_check (row_kind r)) = both_left (status r && is_check (row_kind r)) _ x.2 in (
        r,
        record {
          among = line-applying v x.0 table.lines rows a x.1 (clear-meets v 24 0 x.0.conditions (both_right (status r && is_check (row_kind r)) _ x.2) z);
          starts = eqb→eq r.start 0 (both_left (eqb r.start 0) _ (both_left (at 0 6 r) _ (both_left (status r) _ y)));
          is_check = test-is-check (row_kind r) (both_right (status r) _ y);
        },
      )

  status-met : (row : Row) → T (status row) → Met v row → AetRead v
  status-met row y m =
      let w : _ = both_right (at 0 6 row) _ y in
      record {
        serror = i;
        clear = z;
        status = m.value;
        has =
            bits_shifted (eqb→eq row.start 0 (both_left (eqb row.start 0) _ (both_left (at 0 6 row) _ y)))
            (eqb→eq row.width 6 (both_right (eqb row.start 0) _ (both_left (at 0 6 row) _ y))) m.has;
        listed =
            subst (λ (r : ℕ). Listed r m.value) (eqb→eq row.rule serror_status.number (both_left (eqb row.rule serror_status.number) _ w))
            (status-listed (row_kind row) row.rule m.value (status-kind row y) m.allowed);
      }

  status-before : (f : Refusal) (order : List ℕ) (cs : List Row) → T (first_is 0 order) → Ordered rows order cs → First v f cs → f.reason ≡ InvalidAet
      → AetRead v
  status-before f [] cs b o k e = absurd b
  status-before f (x ∷ xs) cs b (check {row} k o) g e = by g
    where
      y : T (status row)
      y = check-status row (subst (λ (p : ℕ). CheckAt rows p row) (eqb→eq x 0 b) k)

      by : {rs : List Row} → First v f (row ∷ rs) → AetRead v
      by (here u) = absurd (omega (arith, status-kind row y, unmet-kind u, ap reason_number e))
      by (later m g) = status-met row y m
  status-before f (x ∷ xs) cs b (away h o) g e =
      let q : _ = status-check in
      absurd (h q.0 (subst (λ (p : ℕ). CheckAt rows p q.0) (sym (eqb→eq x 0 b)) q.1))

-- a refusal of one number is not for the reason of another
differs : {A : Type 0} {n : ℕ} {its : Reason} (reason : Reason) → n ≡ reason_number its → T (not (eqb n (reason_number reason))) → its ≡ reason → A
differs {A} {n} {its} reason e t h = absurd (T_not (eqb n (reason_number reason)) t (is_true (eq-eqb n (reason_number reason) (e ∙ ap reason_number h))))

module _ (v : ℕ) (f : Refusal) where
  top-given : Unmet v reserved f → GivenWhen v f
  unfolding kind_of
  top-given u =
      let e : 1 ≡ refusal_number f = unmet-kind u in
      record {
        invalid_res0 = unmet-zero (at_top refl) u;
        invalid_ec = differs InvalidEc e tt;
        invalid_fsc = differs InvalidFsc e tt;
        invalid_set = differs InvalidSet e tt;
        invalid_aet = differs InvalidAet e tt;
        invalid_am = differs InvalidAm e tt;
        invalid_ld64b_iss = differs InvalidLd64bIss e tt;
        unnamed = unmet-unnamed u;
      }

  class-given : Unmet v class f → GivenWhen v f
  unfolding kind_of
  class-given u =
      let e : 2 ≡ refusal_number f = unmet-kind u in
      record {
        invalid_res0 = differs InvalidRes0 e tt;
        invalid_ec = λ h. (unmet-bits u, λ s k. by s k (class-of v));
        invalid_fsc = differs InvalidFsc e tt;
        invalid_set = differs InvalidSet e tt;
        invalid_aet = differs InvalidAet e tt;
        invalid_am = differs InvalidAm e tt;
        invalid_ld64b_iss = differs InvalidLd64bIss e tt;
        unnamed = unmet-unnamed u;
      }
    where
      by : (s : Served) → Classed v s → ClassOf v → ⊥
      by s k (none_serves h n q) = h s k
      by s k (served_by x c w n q) =
          unmet-list u (λ g. omega (arith, unmet-kind u))
          (subst (Listed class_name.number) (sym (bits_is (unmet-bits u))) (describes-listed class_name.number _ n))

  own-given : (s : Served) (rows cs : List Row) → Classed v s → Applying v s.table.lines rows → Ordered rows s.table.order cs
      → First v f cs → GivenWhen v f
  own-given s rows cs k a o g =
      let w : (row : Row) × Memᴰ row cs × Unmet v row f = first-row cs g in
      let j : Memᴰ w.0 rows = ordered-among w.0 rows s.table.order cs o w.1 in
      let x : Of v s.table.lines w.0 = applying-line v w.0 s.table.lines rows a j in
      let t : (j : ℕ) × T (tested s j x.line) =
      every_mem (tested s) x.line 0 s.table.lines (every_mem tested_table s 0 layouts all_tested k.layout).1 x.among in
      line-given v f s k t.0 x.line x.meets t.1 (subst (RowOf v) x.its (in_iss k a j))
      (subst (λ (r : Row). Unmet v r f) x.its w.2)
      (λ y i z. status-before v s.table rows a y i z f s.table.order cs (both_left (first_is 0 s.table.order) _ y) o g)

  checks-given : (cs : List Row) → Checks v cs → First v f cs → GivenWhen v f
  checks-given cs (unserved h) (here u) = top-given u
  checks-given cs (unserved h) (later m (here u)) = class-given u
  checks-given _ (unserved h) (later m (later j g)) = elim g [ ]
  checks-given cs (served k a o) (here u) = top-given u
  checks-given cs (served k a o) (later m (here u)) = class-given u
  checks-given all (served {s} {rows} {cs} k a o) (later m (later j g)) = own-given s rows cs k a o g

-- A value that is refused is as 01's table of refusals says of that refusal, and the refusal carries what it says.
pub refusing-given : (v : ℕ) (f : Refusal) → Refusing v f → GivenWhen v f
refusing-given v f r = checks-given v f r.checks r.order r.first

-- The same of any answer that the promise of decode allows.
pub refused-given : (esr : ℕ) (r : Answer) → Decoded esr r → (r.refusal ≡ no_refusal → ⊥) → GivenWhen esr r.refusal
refused-given esr r d h = refusing-given esr r.refusal (refused-refusing esr r d h)
