-- A record holds its row exactly where it is the row's record and the row is met, and the first row that is not met is the first failure: by
-- what each kind asks.
use Rattle.std.proofs.Common.{◌≡◌, ℕ, ◌+◌, Bool, true, false, cond, T, leb, ◌⊎◌, List, [], ◌∷◌, map, sym, refl, ap, ◌∙◌, subst, ap₂, inl, inr, eqb→eq, leb→le, eq-eqb}
use mathlib.Core.List.Memᴰ
use mathlib.Core.List.{Memᴰ}
use Rattle.promise.specs.Member.{member}
use Rattle.promise.proofs.Tests.{both_left, true_is, false_is, is_true}
use Rattle.texts.specs.Pool.{describes, first_of, text_code, text_at, description_of}
use Rattle.texts.proofs.Laws.{text-described}
use Rattle.refusals.specs.Refusals.{refusal_number, carrying, no_refusal}
use Rattle.refusals.proofs.Theorems.{by_parts}
use Rattle.refusals.specs.declared.Refusal.{Refusal}
use Rattle.records.specs.Bits.{field_of}
use Rattle.records.specs.Subjects.{subject, text_of}
use Rattle.records.specs.Rows.{value_in, record_of, meets, refusal_of, row_kind}
use Rattle.records.specs.Kinds.{Kind, Free, Unchecked, Checked, Coded, mark_of, allows, reason_of, named}
use Rattle.records.specs.declared.Mark.{Mark}
use Rattle.records.specs.declared.Record.{Record}
use Rattle.records.specs.declared.Row.{Row}
use Rattle.esr.specs.Decode.{first_failure}
use Rattle.reading.specs.Refusing.{refusing, Met, Unmet, not_zero, not_listed, First, here, later}
use Rattle.reading.specs.Reading.{Listed, Allowed, Holds, HoldAll, none, more}
use Rattle.reading.proofs.HasBits.{bits_is, bits-of, inner}
use Rattle.reading.proofs.Subjects.{speaks_is, subject_speaks}
use Rattle.reading.proofs.Applies.{numbered, fitting, listed-describes, describes-listed}

-- What a kind allows, and its computed test.

allowed-test : (k : Kind) (rule value : ℕ) → Allowed k rule value → T (allows k rule value)
allowed-test Free rule value a = tt
allowed-test (Coded reason) rule value a = listed-describes a
allowed-test Checked rule value a = is_true (eq-eqb value 0 a)
allowed-test Unchecked rule value a = tt

test-allowed : (k : Kind) (rule value : ℕ) → T (allows k rule value) → Allowed k rule value
test-allowed Free rule value t = tt
test-allowed (Coded reason) rule value t = describes-listed rule value t
test-allowed Checked rule value t = eqb→eq value 0 t
test-allowed Unchecked rule value t = tt

module _ (v : ℕ) (row : Row) where
  allowed-meets : (value : ℕ) → value ≡ value_in v row → Allowed (row_kind row) row.rule value → T (meets v row)
  unfolding meets
  allowed-meets value e a = subst (λ (n : ℕ). T (allows (row_kind row) row.rule n)) e (allowed-test (row_kind row) row.rule value a)

  meets-allowed : T (meets v row) → Allowed (row_kind row) row.rule (value_in v row)
  unfolding meets
  meets-allowed t = test-allowed (row_kind row) row.rule (value_in v row) t

  met-meets : Met v row → T (meets v row)
  met-meets m = allowed-meets m.value (bits_is m.has) m.allowed

  pub meets-met : T (meets v row) → Met v row
  meets-met t = record { value = value_in v row; has = bits-of v row.start row.width; allowed = meets-allowed t }

  -- a row that is not met refuses for its reason, carrying its field
  unmet-fails : (f : Refusal) → Unmet v row f → (meets v row ≡ false) × (refusal_of v row ≡ f)
  unfolding meets refusal_of
  unmet-fails f (not_zero h k e b z) = (
    false_is (meets v row) (λ t. z (bits_is h ∙ eqb→eq (value_in v row) 0 (subst (λ (x : Kind). T (allows x row.rule (value_in v row))) k t))),
    by_parts (refusal_of v row) f (sym (bits_is h)) (ap (λ (x : Kind). named x row.start) k ∙ sym b.0)
        (ap (λ (x : Kind). named x row.width) k ∙ sym b.1) (ap reason_of k ∙ sym e),
  )
  unmet-fails f (not_listed h k b n) = (
    false_is (meets v row)
        (λ t. n (describes-listed row.rule f.carries
        (subst (λ (x : ℕ). T (describes row.rule x)) (sym (bits_is h)) (subst (λ (x : Kind). T (allows x row.rule (value_in v row))) k t)))),
    by_parts (refusal_of v row) f (sym (bits_is h)) (ap (λ (x : Kind). named x row.start) k ∙ sym b.0)
        (ap (λ (x : Kind). named x row.width) k ∙ sym b.1) (ap reason_of k),
  )

  pub fails-unmet : meets v row ≡ false → Unmet v row (refusal_of v row)
  unfolding meets refusal_of
  fails-unmet e = by (row_kind row) refl e
    where
      by : (k : Kind) → row_kind row ≡ k → allows k row.rule (value_in v row) ≡ false
          → Unmet v row (record { carries = value_in v row; start = named k row.start; width = named k row.width; reason = reason_of k })
      by Free k e = absurd (subst T e tt)
      by (Coded reason) k e = not_listed (bits-of v row.start row.width) k (refl, refl) (λ l. subst T e (listed-describes l))
      by Checked k e = not_zero (bits-of v row.start row.width) k refl (refl, refl) (λ z. subst T e (is_true (eq-eqb (value_in v row) 0 z)))
      by Unchecked k e = absurd (subst T e tt)

-- The first failure.

abbrev pub Each : (Row → Type 0) → List Row → Type 0
Each P rows = (r : Row) → Memᴰ r rows → P r

pub each-cons : (P : Row → Type 0) (row : Row) (rows : List Row) → P row → Each P rows → Each P (row ∷ rows)
each-cons P row rows t p r m = by (Memᴰ.cases_cons m)
  where
    by : (r ≡ row) ⊎ Memᴰ r rows → P r
    by (inl e) = subst P (sym e) t
    by (inr k) = p r k

-- rows that are all met
abbrev pub Pass : ℕ → List Row → Type 0
Pass v rows = Each (λ r. T (meets v r)) rows

pub pass-first : (v : ℕ) (rows : List Row) → Pass v rows → first_failure v rows ≡ no_refusal
unfolding first_failure
pass-first v [] p = refl
pass-first v (r ∷ rs) p =
    ap (λ (b : Bool). cond b (first_failure v rs) (refusal_of v r)) (true_is (meets v r) (p r (Memᴰ.head refl))) ∙ pass-first v rs (λ x m. p x (Memᴰ.tail m))

-- the first failure is what the decoder's checks answer
pub first-is : (v : ℕ) (f : Refusal) (rows : List Row) → First v f rows → first_failure v rows ≡ f
unfolding first_failure
first-is v f [] m = elim m [ ]
first-is v f (r ∷ rs) (here u) =
    let w : _ = unmet-fails v r f u in
    ap (λ (b : Bool). cond b (first_failure v rs) (refusal_of v r)) w.0 ∙ w.1
first-is v f (r ∷ rs) (later m k) =
    ap (λ (b : Bool). cond b (first_failure v rs) (refusal_of v r)) (true_is (meets v r) (met-meets v r m)) ∙ first-is v f rs k

-- all rows are met, or what the decoder's checks answer is the first failure
pub pass_or_first : (v : ℕ) (rows : List Row) → Pass v rows ⊎ First v (first_failure v rows) rows
unfolding first_failure
pass_or_first v [] = inl (λ r m. absurd (Memᴰ.not-nil m))
pass_or_first v (r ∷ rs) = by (meets v r) refl (pass_or_first v rs)
  where
    by : (b : Bool) → meets v r ≡ b → Pass v rs ⊎ First v (first_failure v rs) rs → Pass v (r ∷ rs) ⊎ First v (cond b (first_failure v rs) (refusal_of v r)) (r ∷ rs)
    by true e (inl p) = inl (each-cons (λ x. T (meets v x)) r rs (is_true e) p)
    by true e (inr f) = inr (later (meets-met v r (is_true e)) f)
    by false e rest = inr (here (fails-unmet v r e))

-- a first failure is by a number of those that refuse a value
unmet-number : (v : ℕ) (row : Row) (f : Refusal) → T (numbered (row_kind row)) → Unmet v row f → T (member (refusal_number f) refusing)
unmet-number v row f t (not_zero h k e b z) = subst (λ (n : ℕ). T (member n refusing)) (sym (ap (λ r. refusal_number (carrying r 0)) e)) tt
unmet-number v row f t (not_listed h k b n) = subst (λ (x : Kind). T (numbered x)) k t

pub first-number : (v : ℕ) (f : Refusal) (rows : List Row) → Each (λ r. T (numbered (row_kind r))) rows → First v f rows → T (member (refusal_number f) refusing)
first-number v f [] t m = elim m [ ]
first-number v f (r ∷ rs) t (here u) = unmet-number v r f (t r (Memᴰ.head refl)) u
first-number v f (r ∷ rs) t (later m k) = first-number v f rs (λ x n. t x (Memᴰ.tail n)) k

-- The record of a row.

unfoldable made : ℕ → ℕ → ℕ → ℕ → ℕ → ℕ → Mark → Record
made v n t l s w m = record { value = v; name = n; text = t; long = l; start = s; width = w; mark = m }

eta : (x : Record) → x ≡ made x.value x.name x.text x.long x.start x.width x.mark
unfolding made
eta x = refl

eta-of : (v : ℕ) (row : Row) → made (value_in v row) row.name (text_of row.rule (value_in v row)) row.long row.start row.width (mark_of (row_kind row)) ≡ record_of v row
unfolding made record_of
eta-of v row = refl

-- A record that holds its row is the row's record.
pub holds-is : (v : ℕ) (row : Row) (x : Record) → Holds v row x → x ≡ record_of v row
unfolding text_code
holds-is v row x h =
    let e : x.value ≡ value_in v row = bits_is h.has in
    let t : x.text ≡ text_of row.rule (value_in v row) = by (describes row.rule n) refl ∙ ap (text_of row.rule) e in
    cc (eta x, eta-of v row, h.start, h.width, h.name, h.long, h.mark)
  where
    n : ℕ
    n = subject row.rule x.value

    by : (b : Bool) → describes row.rule n ≡ b → x.text ≡ text_code row.rule n
    by true e = h.described n (subject_speaks row.rule x.value (is_true e)) (describes-listed row.rule n (is_true e)) ∙ simp e
    by false e = h.undescribed (λ k s l. subst T e (listed-describes (subst (Listed row.rule) (speaks_is s) l))) ∙ simp e

-- The text of a record that holds its row is what the row's rule says of it.
pub held-text : (v : ℕ) (row : Row) (x : Record) → Holds v row x → text_at x.text ≡ description_of row.rule (subject row.rule x.value)
unfolding record_of
held-text v row x h =
    subst (λ (y : Record). text_at y.text ≡ description_of row.rule (subject row.rule y.value)) (sym (holds-is v row x h))
    (text-described row.rule (subject row.rule (value_in v row)))

-- The record of a row that is met holds it.
holds_of : (v : ℕ) (row : Row) → T (meets v row) → Holds v row (record_of v row)
unfolding record_of text_code
holds_of v row t =
    let n : ℕ = subject row.rule (value_in v row) in
    record {
      start = refl;
      width = refl;
      name = refl;
      long = refl;
      mark = refl;
      has = bits-of v row.start row.width;
      described = λ k s l.
          ap (λ (b : Bool). cond b (first_of row.rule + n) 0) (true_is (describes row.rule n) (listed-describes (subst (Listed row.rule) (speaks_is s) l)))
          ∙ ap (λ (m : ℕ). first_of row.rule + m) (sym (speaks_is s));
      undescribed = λ none. simp (false_is (describes row.rule n) (λ u. none n (subject_speaks row.rule (value_in v row) u) (describes-listed row.rule n u)));
      allowed = meets-allowed v row t;
    }

pub hold_all_is : (v : ℕ) (rows : List Row) (xs : List Record) → HoldAll v rows xs → xs ≡ map (record_of v) rows
hold_all_is v [] xs none = refl
hold_all_is v (r ∷ rs) xs (more h hs) = ap₂ (λ (y : Record) (ys : List Record). y ∷ ys) (holds-is v r _ h) (hold_all_is v rs _ hs)

pub hold_all_pass : (v : ℕ) (rows : List Row) (xs : List Record) → HoldAll v rows xs → Pass v rows
hold_all_pass v [] xs none = λ r m. absurd (Memᴰ.not-nil m)
hold_all_pass v (r ∷ rs) xs (more {row} {x} h hs) = each-cons (λ x. T (meets v x)) r rs (allowed-meets v r x.value (bits_is h.has) h.allowed) (hold_all_pass v rs _ hs)

pub hold_all_of : (v : ℕ) (rows : List Row) → Pass v rows → HoldAll v rows (map (record_of v) rows)
hold_all_of v [] p = none
hold_all_of v (r ∷ rs) p = more (holds_of v r (p r (Memᴰ.head refl))) (hold_all_of v rs (λ x m. p x (Memᴰ.tail m)))

-- Rows within ISS say of the value what they say of ISS.
module _ (v : ℕ) where
  in_iss : (r : Row) → T (fitting r) → value_in (field_of v 0 25) r ≡ value_in v r
  in_iss r t = inner 25 v r.start r.width (leb→le _ 25 (both_left (leb (r.start + r.width) 25) _ t))

  pub first-iss : (rows : List Row) → Each (λ r. T (fitting r)) rows → first_failure (field_of v 0 25) rows ≡ first_failure v rows
  unfolding first_failure meets refusal_of
  first-iss [] t = refl
  first-iss (r ∷ rs) t =
      ap₂ (λ (n : ℕ) (f : Refusal). cond (allows (row_kind r) r.rule n) f
      (record { carries = n; start = named (row_kind r) r.start; width = named (row_kind r) r.width; reason = reason_of (row_kind r) })) (in_iss r (t r (Memᴰ.head refl)))
      (first-iss rs (λ x m. t x (Memᴰ.tail m)))

  pub records-iss : (rows : List Row) → Each (λ r. T (fitting r)) rows → map (record_of (field_of v 0 25)) rows ≡ map (record_of v) rows
  unfolding record_of
  records-iss [] t = refl
  records-iss (r ∷ rs) t =
      ap₂ (λ (n : ℕ) (ys : List Record). record { value = n; name = r.name; text = text_of r.rule n; long = r.long; start = r.start; width = r.width; mark = mark_of (row_kind r) } ∷ ys)
      (in_iss r (t r (Memᴰ.head refl))) (records-iss rs (λ x m. t x (Memᴰ.tail m)))
