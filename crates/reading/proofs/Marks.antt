-- What the marks of an accepted value's records say: a checked field is 0, and a coded one is exactly one that a refusal of 2 to 7 can come from. Each
-- record holds its row; and for each coded row of the tables a value is refused by it, by one computed test.
use Rattle.std.proofs.Common.{◌≡◌, ℕ, Bool, true, false, cond, ◌&&◌, T, ◌⊎◌, List, [], ◌∷◌, ◌++◌, map, take, sym, refl, ap, ◌∙◌, subst, inl, inr, arith}
use mathlib.Core.List.Memᴰ
use mathlib.Core.List.{Memᴰ}
use Rattle.promise.specs.Member.{member}
use Rattle.promise.proofs.Tests.{every, every_mem, both_left, both_right, true_is, is_true, member_of, of-member}
use Rattle.texts.specs.Rules.{rules}
use Rattle.texts.specs.Pool.{code, index_in, describes, on_list, rule_at}
use Rattle.texts.specs.Names.{names}
use Rattle.refusals.specs.Refusals.{refusal_number, no_refusal}
use Rattle.records.specs.Bits.{field_of}
use Rattle.records.specs.Kinds.{Kind, Free, Coded, Checked, Unchecked, kind_of, mark_of}
use Rattle.records.specs.Rows.{record_of, meets, refusal_of, row_kind}
use Rattle.records.specs.Sets.{records_of, list_of}
use Rattle.records.specs.declared.Mark.{Mark}
use Rattle.records.specs.declared.Mark.TheVariants as mark
use Rattle.records.specs.declared.Record.{Record}
use Rattle.records.specs.declared.Row.{Row}
use Rattle.records.proofs.Laws.{list-of}
use Rattle.tables.specs.Shape.{Line}
use Rattle.tables.specs.Applying.{passes, rows_for, checks_for}
use Rattle.tables.proofs.Laws.{same_list, same-list}
use Rattle.tables.specs.Tables.{top_rows, reserved, class, Served, layouts, res0, wf, mcr, mcrr, ldc, sve, ld64b, bti, pauth, hvc, brk, fp, breakpoint, software_step, watchpoint, instruction_abort, data_abort, serror, msr}
use Rattle.esr.specs.Decode.{first_failure, refused, accepted, failure_for, records_for, table_answer, class_of, class_answer, answer_of}
use Rattle.esr.specs.Promises.{Decoded}
use Rattle.esr.specs.declared.Answer.{Answer}
use Rattle.reading.specs.Reading.{Allowed, Holds, HoldAll, none, more, Classed, Reading}
use Rattle.reading.specs.Refusing.{Met, Checks, unserved}
use Rattle.reading.specs.ReadAs.{ReadAs}
use Rattle.reading.specs.Marks.{ReadBy, CanRefuse, of_coded}
use Rattle.reading.proofs.HasBits.{bits-of}
use Rattle.reading.proofs.Served.{ClassOf, unserved as none_serves, served_by, class-of}
use Rattle.reading.proofs.Judge.{meets-met, fails-unmet}
use Rattle.reading.proofs.Outcome.{all_checks, own-checks, Rows, reading-rows}
use Rattle.reading.proofs.Reading.{accepted-read}
use Rattle.reading.proofs.Given.{some, some_mem, kind_number, unmet-kind, Of, applying-line}

-- A kind by its mark.

-- a checked field is 0
checked-kind : (k : Kind) (rule value : ℕ) → mark_of k ≡ mark.Checked → Allowed k rule value → value ≡ 0
checked-kind Free rule value e a = let z : ◌≡◌ {A = ℕ} 0 1 = cc in absurd (omega arith)
checked-kind (Coded reason) rule value e a = let z : ◌≡◌ {A = ℕ} 0 1 = cc in absurd (omega arith)
checked-kind Checked rule value e a = a
checked-kind Unchecked rule value e a = let z : ◌≡◌ {A = ℕ} 0 1 = cc in absurd (omega arith)

-- a kind that refuses by one of 2 to 7 is coded
number-coded : (k : Kind) → T (member (kind_number k) of_coded) → mark_of k ≡ mark.Coded
number-coded Free t = absurd t
number-coded (Coded reason) t = refl
number-coded Checked t = absurd t
number-coded Unchecked t = absurd t

abbrev is_coded : Kind → Bool
is_coded Free = false
is_coded (Coded reason) = true
is_coded Checked = false
is_coded Unchecked = false

coded-is : (k : Kind) → mark_of k ≡ mark.Coded → T (is_coded k)
coded-is Free e = let z : ◌≡◌ {A = ℕ} 0 1 = cc in absurd (omega arith)
coded-is (Coded reason) e = tt
coded-is Checked e = let z : ◌≡◌ {A = ℕ} 0 1 = cc in absurd (omega arith)
coded-is Unchecked e = let z : ◌≡◌ {A = ℕ} 0 1 = cc in absurd (omega arith)

-- Which row refuses a value.

abbrev columns : Row → List ℕ
columns r = r.start ∷ r.width ∷ r.name ∷ r.long ∷ r.rule ∷ r.kind ∷ []

unfoldable made : ℕ → ℕ → ℕ → ℕ → ℕ → ℕ → Row
made s w n l r k = record { start = s; width = w; name = n; long = l; rule = r; kind = k }

eta : (r : Row) → r ≡ made r.start r.width r.name r.long r.rule r.kind
unfolding made
eta r = refl

same_row_lem : (r s : Row) → T (same_list (columns r) (columns s)) → r ≡ s
same_row_lem r s t = cc (eta r, eta s, same-list (columns r) (columns s) t)

-- the first of the rows that a value does not meet is this one
abbrev stops_at : ℕ → Row → List Row → Bool
stops_at v row [] = false
stops_at v row (r ∷ rs) = cond (meets v r) (stops_at v row rs) (same_list (columns row) (columns r))

record Stop (v : ℕ) (row : Row) (rows : List Row) : Type 0 where
  before : List Row
  after : List Row
  split : rows ≡ before ++ (row ∷ after)
  met : (r : Row) → Memᴰ r before → Met v r
  fails : meets v row ≡ false

stop : (v : ℕ) (row : Row) (rows : List Row) → T (stops_at v row rows) → Stop v row rows
stop v row [] t = absurd t
stop v row (r ∷ rs) t = by (meets v r) refl t (stop v row rs)
  where
    met-cons : (xs : List Row) → Met v r → ((x : Row) → Memᴰ x xs → Met v x) → (x : Row) → (x ≡ r) ⊎ Memᴰ x xs → Met v x
    met-cons xs m ms x (inl e) = subst (Met v) (sym e) m
    met-cons xs m ms x (inr k) = ms x k

    by : (b : Bool) → meets v r ≡ b → T (cond b (stops_at v row rs) (same_list (columns row) (columns r))) → (T (stops_at v row rs) → Stop v row rs) → Stop v row (r ∷ rs)
    by true e u rest =
        let s : Stop v row rs = rest u in
        record {
          before = r ∷ s.before;
          after = s.after;
          split = ap (λ (xs : List Row). r ∷ xs) s.split;
          met = λ x m. met-cons s.before (meets-met v r (is_true e)) s.met x (Memᴰ.cases_cons m);
          fails = s.fails;
        }
    by false e u rest =
        let same : row ≡ r = same_row_lem row r u in
        record {
          before = [];
          after = rs;
          split = ap (λ (x : Row). x ∷ rs) (sym same);
          met = λ x m. absurd (Memᴰ.not-nil m);
          fails = ap (meets v) same ∙ e;
        }

refuses : (v : ℕ) (row : Row) (checks : List Row) → Checks v checks → T (stops_at v row checks) → T (member (kind_number (row_kind row)) of_coded) → CanRefuse row of_coded
unfolding refusal_of
refuses v row checks o t n =
    let s : Stop v row checks = stop v row checks t in
    record {
      value = v;
      refusal = refusal_of v row;
      from =
          record {
            before = s.before;
            after = s.after;
            order = subst (Checks v) s.split o;
            met = s.met;
            unmet = fails-unmet v row s.fails;
          };
      number = of-member _ of_coded n;
    }

-- Each coded row of the tables refuses a value.

-- for each coded row of a layout, a value that it refuses
abbrev refused_by : List ℕ
refused_by = 0x1800000A ∷ 0x28000003 ∷ 0xC0000000 ∷ 0xC8000000 ∷ 0xD0000000 ∷ 0x8000003F ∷ 0x80000810 ∷ 0x9000003F ∷ 0x90000810 ∷ 0xBC000002 ∷ 0xBC001000 ∷ []

abbrev refuses_at : Served → Row → ℕ → Bool
refuses_at s row v = member (class_of v) s.classes && stops_at v row (all_checks s v)

abbrev shown : Served → ℕ → Line → Bool
shown s i l = cond (is_coded (row_kind l.row)) (member (kind_number (row_kind l.row)) of_coded && some (refuses_at s l.row) refused_by) true

abbrev shown_table : ℕ → Served → Bool
shown_table i s = every (shown s) 0 s.table.lines

-- the computed test
all_shown : T (every shown_table 0 layouts)
unfolding layouts res0 wf mcr mcrr ldc sve ld64b bti pauth hvc brk fp breakpoint software_step watchpoint instruction_abort data_abort serror msr rules code index_in names describes on_list rule_at kind_of field_of meets passes rows_for checks_for
all_shown = tt

line-refuses : {s : Served} (l : Line) → Memᴰ s layouts → Memᴰ l s.table.lines → T (is_coded (row_kind l.row)) → CanRefuse l.row of_coded
line-refuses {s} l m k c =
    let row : Row = l.row in
    let t : _ = (every_mem (shown s) l 0 s.table.lines (every_mem shown_table s 0 layouts all_shown m).1 k).1 in
    let u : T (member (kind_number (row_kind row)) of_coded && some (refuses_at s row) refused_by) =
    subst (λ (b : Bool). T (cond b (member (kind_number (row_kind row)) of_coded && some (refuses_at s row) refused_by) true)) (true_is (is_coded (row_kind row)) c) t in
    let w : _ = some_mem (refuses_at s row) refused_by (both_right (member (kind_number (row_kind row)) of_coded) _ u) in
    let v : ℕ = w.0 in
    let classed : Classed v s =
    record { class = class_of v; has = bits-of v 26 6; serves = of-member (class_of v) s.classes (both_left (member (class_of v) s.classes) _ w.2); layout = m } in
    refuses v row (all_checks s v) (own-checks v s classed) (both_right (member (class_of v) s.classes) _ w.2) (both_left (member (kind_number (row_kind row)) of_coded) _ u)

-- EC: a class that no layout serves
class-refuses : CanRefuse class of_coded
unfolding meets kind_of field_of code index_in names describes on_list rule_at rules
class-refuses = by (class-of 0xFC000000)
  where
    by : ClassOf 0xFC000000 → CanRefuse class of_coded
    by (none_serves h n q) = refuses 0xFC000000 class (reserved ∷ class ∷ []) (unserved h) tt tt
    by (served_by s c u n q) = absurd n

-- of the top rows, EC alone is coded
abbrev only_class : ℕ → Row → Bool
only_class i r = cond (is_coded (row_kind r)) (same_list (columns r) (columns class)) true

top-class : (rule : ℕ) (row : Row) → Memᴰ row (top_rows rule) → T (is_coded (row_kind row)) → row ≡ class
unfolding top_rows kind_of code index_in names
top-class rule row m c =
    same_row_lem row class
    (subst (λ (b : Bool). T (cond b (same_list (columns row) (columns class)) true)) (true_is (is_coded (row_kind row)) c) (every_mem only_class row 0 (top_rows rule) tt m).1)

-- A row by which a value is read is coded exactly if one of the refusals 2 to 7 can come from it.
module _ (v : ℕ) (row : Row) where
  pub coded-refuses : ReadBy v row → mark_of (row_kind row) ≡ mark.Coded → CanRefuse row of_coded
  coded-refuses b e = by (Memᴰ.append_cases (top_rows b.served.table.iss_rule) b.among)
    where
      c : T (is_coded (row_kind row))
      c = coded-is (row_kind row) e

      by : Memᴰ row (top_rows b.served.table.iss_rule) ⊎ Memᴰ row b.rows → CanRefuse row of_coded
      by (inl m) = subst (λ (r : Row). CanRefuse r of_coded) (sym (top-class b.served.table.iss_rule row m c)) class-refuses
      by (inr m) =
          let l : Of v b.served.table.lines row = applying-line v row b.served.table.lines b.rows b.applying m in
          subst (λ (r : Row). CanRefuse r of_coded) (sym l.its)
          (line-refuses l.line b.classed.layout l.among (subst (λ (r : Row). T (is_coded (row_kind r))) l.its c))

  pub refuses-coded : CanRefuse row of_coded → mark_of (row_kind row) ≡ mark.Coded
  refuses-coded r =
      number-coded (row_kind row) (subst (λ (n : ℕ). T (member n of_coded)) (sym (unmet-kind r.from.unmet)) (member_of (refusal_number r.refusal) of_coded r.number))

-- The records of an accepted value.

-- what is so of a record whose row a value is read by
pub record Marked (v : ℕ) (x : Record) : Type 0 where
  pub row : Row
  pub by : ReadBy v row
  pub holds : Holds v row x
  pub coded : x.mark ≡ mark.Coded → CanRefuse row of_coded
  pub refuses : CanRefuse row of_coded → x.mark ≡ mark.Coded

held-row : {v : ℕ} {rows : List Row} {xs : List Record} (x : Record) → HoldAll v rows xs → Memᴰ x xs → (row : Row) × Memᴰ row rows × Holds v row x
held-row x none m = absurd (Memᴰ.not-nil m)
held-row {v} x (more {row} {x = y} {rows} {xs = ys} h hs) m = by (Memᴰ.cases_cons m) (held-row x hs)
  where
    by : (x ≡ y) ⊎ Memᴰ x ys → (Memᴰ x ys → (r : Row) × Memᴰ r rows × Holds v r x) → (r : Row) × Memᴰ r (row ∷ rows) × Holds v r x
    by (inl e) rest = (row, Memᴰ.head refl, subst (Holds v row) (sym e) h)
    by (inr k) rest = let w : _ = rest k in (w.0, Memᴰ.tail w.1, w.2)

-- "37..64 is checked .. ISS2 and the ISS record itself are free"; EC is coded
pub top-marks : (esr : ℕ) (r : Answer) → Decoded esr r → r.refusal ≡ no_refusal
    → map (λ (x : Record). x.mark) (take 5 (list_of r.records)) ≡ mark.Checked ∷ mark.Free ∷ mark.Coded ∷ mark.Free ∷ mark.Free ∷ []
unfolding top_rows record_of kind_of
top-marks esr r d h =
    let a : ReadAs esr r = accepted-read esr r d h in
    let k : Rows esr a.list = reading-rows esr a.list a.reading in
    ap (λ (l : List Record). map (λ (x : Record). x.mark) (take 5 l)) (ap list_of a.records ∙ list-of a.list ∙ k.list)

module _ (esr : ℕ) (r : Answer) (d : Decoded esr r) (h : r.refusal ≡ no_refusal) (x : Record) (m : Memᴰ x (list_of r.records)) where
  its-row : (row : Row) × ReadBy esr row × Holds esr row x
  its-row =
      let a : ReadAs esr r = accepted-read esr r d h in
      let k : Reading esr a.list = a.reading in
      let w : _ = held-row x k.held (subst (Memᴰ x) (ap list_of a.records ∙ list-of a.list) m) in
      (w.0, record { served = k.served; classed = k.classed; rows = k.rows; applying = k.applying; among = w.1 }, w.2)

  -- "For any accepted value, a record marked checked holds 0."
  pub checked_zero : x.mark ≡ mark.Checked → x.value ≡ 0
  checked_zero e =
      let w : _ = its-row in
      checked-kind (row_kind w.0) w.0.rule x.value (sym w.2.mark ∙ e) w.2.allowed

  -- "a coded field is one that one of refusals 2 to 7 can come from in the ordinary decoder"
  pub coded-exactly : Marked esr x
  coded-exactly =
      let w : _ = its-row in
      record {
        row = w.0;
        by = w.1;
        holds = w.2;
        coded = λ e. coded-refuses esr w.0 w.1 (sym w.2.mark ∙ e);
        refuses = λ c. w.2.mark ∙ refuses-coded esr w.0 c;
      }

-- Each mark is one that a record of an accepted value has: those of a data abort without SET, whose bits 11 and 12 are unchecked and not 0, by computation.
abbrev shown_marks : List (Mark × ℕ)
shown_marks =
    (mark.Checked, 0) ∷ (mark.Free, 0) ∷ (mark.Coded, 0x24) ∷ (mark.Free, 0) ∷ (mark.Free, 0x804) ∷
    (mark.Free, 0) ∷ (mark.Checked, 0) ∷ (mark.Checked, 0) ∷ (mark.Free, 0) ∷ (mark.Checked, 0) ∷ (mark.Free, 0) ∷ (mark.Unchecked, 1) ∷
    (mark.Free, 0) ∷ (mark.Free, 0) ∷ (mark.Free, 0) ∷ (mark.Free, 0) ∷ (mark.Free, 0) ∷ (mark.Coded, 4) ∷
    []

abbrev marks_of : Answer → List (Mark × ℕ)
marks_of a = map (λ (x : Record). (x.mark, x.value)) (list_of a.records)

pub marks-shown : (r : Answer) → Decoded 0x90000804 r → (r.refusal ≡ no_refusal) × (marks_of r ≡ shown_marks)
unfolding answer_of class_answer table_answer failure_for records_for top_rows records_of record_of first_failure rows_for checks_for layouts data_abort passes meets refusal_of kind_of field_of accepted refused describes on_list rule_at rules
marks-shown r d = (ap (λ (a : Answer). a.refusal) d, ap marks_of d)
