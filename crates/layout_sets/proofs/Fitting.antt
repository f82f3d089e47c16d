-- At most one set of rows fits a list, and a test whose row is not in a set does not matter to the set. One computed test of each table shows both: under any
-- two outcomes of its conditions the rows are the same, or a test with different outcomes has its row in both sets, and at the same place where they are
-- equally long, so that one number of the list would answer it both ways.
use mathlib.Core.Path.{◌≡◌, refl, sym, ap, ap₂, ◌∙◌, subst}
use mathlib.Core.Logic.{◌⊎◌, inl, inr}
use mathlib.Core.Bool.{Bool, true, false, cond, not, ◌&&◌, ◌||◌}
use mathlib.Core.List.{List, [], ◌∷◌, map, Memᴰ}
use Prim.Native.Nat.{ℕ, suc, ◌<◌}
use native.Mathlib.Nat.{not-suc-le-zero}
use native.Mathlib.Omega.{arith}
use lib.Dec.{T, eqb, ltb, eqb→eq, ltb→lt}
use lib.ListN.{length, get_or, length-map}
use borrow.Author.Tests.{eq-eqb}
use Rattle.promise.specs.Member.{member}
use Rattle.promise.proofs.Tests.{both_left, both_right, is_true, every, every_mem}
use Rattle.records.specs.Bits.{field_of}
use Rattle.records.specs.Rows.{value_in}
use Rattle.records.specs.declared.Row.{Row}
use Rattle.tables.specs.Shape.{Test, Line, Table, tests}
use Rattle.tables.specs.Applying.{passes, met, keep, rows_for}
use Rattle.tables.specs.Tables.{Served, layouts, res0, wf, mcr, mcrr, ldc, sve, ld64b, bti, pauth, hvc, brk, fp, breakpoint, software_step, watchpoint, instruction_abort, data_abort, serror, msr}
use Rattle.tables.proofs.Laws.{same_list, same, known, given, knows_lines, given_is, keep-is}
use Rattle.tables.proofs.Sound.{at_all, named, all-at}
use Rattle.layout_sets.specs.Fitting.{leaf_rows, is_row, leaf_at, answers, Fits}
use Rattle.layout_sets.proofs.Outcomes.{same_bools, same_bools_lem}

-- The rows that are kept depend on which lines have their conditions met.

abbrev met_by : (Test → Bool) → List Line → List Bool
met_by f [] = []
met_by f (l ∷ ls) = met f l.conditions ∷ met_by f ls

abbrev rows_by : List Bool → List Line → List Row
rows_by bs [] = []
rows_by [] (l ∷ ls) = []
rows_by (b ∷ bs) (l ∷ ls) = cond b (l.row ∷ rows_by bs ls) (rows_by bs ls)

kept_by : (f : Test → Bool) (ls : List Line) → keep f ls ≡ rows_by (met_by f ls) ls
kept_by f [] = refl
kept_by f (l ∷ ls) = ap (λ (rs : List Row). cond (met f l.conditions) (l.row ∷ rs) rs) (kept_by f ls)

same_kept : (f g : Test → Bool) (ls : List Line) → T (same_bools (met_by f ls) (met_by g ls)) → keep f ls ≡ keep g ls
same_kept f g ls t = kept_by f ls ∙ ap (λ (bs : List Bool). rows_by bs ls) (same_bools_lem (met_by f ls) (met_by g ls) t) ∙ sym (kept_by g ls)

-- The computed test.

-- the place of the row that a test asks of; past the last where there is none
abbrev place : List Row → Test → ℕ
place [] t = 0
place (r ∷ rs) t = cond (is_row t.start t.width r) 0 (suc (place rs t))

abbrev has : List Row → Test → Bool
has rows t = ltb (place rows t) (length rows)

abbrev differ : Bool → Bool → Bool
differ true b = not b
differ false b = b

-- a test tells two sets apart: it has different outcomes, and a row in both, at the same place where the sets are equally long
abbrev apart : List Row → List Row → (Test → Bool) → (Test → Bool) → Test → Bool
apart xs ys f g t = differ (f t) (g t) && (has xs t && (has ys t && (not (eqb (length xs) (length ys)) || eqb (place xs t) (place ys t))))

abbrev some : (Test → Bool) → List Test → Bool
some p [] = false
some p (t ∷ ts) = p t || some p ts

abbrev pair_at : List Line → List Test → (Test → Bool) → (Test → Bool) → Bool
pair_at ls ts f g = same_bools (met_by f ls) (met_by g ls) || some (apart (keep f ls) (keep g ls) f g) ts

abbrev pairs : List Line → List Test → Bool
pairs ls ts = at_all (length ts) (λ bs. at_all (length ts) (λ cs. pair_at ls ts (given ts bs) (given ts cs)))

-- and the tests that the lines name are all known
abbrev regular_by : List Line → List Test → Bool
regular_by ls ts = knows_lines ts ls && pairs ls ts

abbrev pub regular : Table → Bool
regular t = knows_lines tests t.lines && regular_by t.lines (named t.lines tests)

abbrev regular_served : ℕ → Served → Bool
regular_served i s = regular s.table

all-regular : T (every regular_served 0 layouts)
unfolding layouts res0 wf mcr mcrr ldc sve ld64b bti pauth hvc brk fp breakpoint software_step watchpoint instruction_abort data_abort serror msr
all-regular = tt

pub regular-table : {s : Served} → Memᴰ s layouts → T (regular s.table)
regular-table {s} m = (every_mem regular_served s 0 layouts all-regular m).1

pub regular-msr : T (regular msr)
unfolding msr
regular-msr = tt

-- What it shows of any two ways to answer the tests.

either : (a b : Bool) → T (a || b) → T a ⊎ T b
either true b t = inl tt
either false b t = inr t

unless : (a b : Bool) → T (not a || b) → T a → T b
unless true b t h = t
unless false b t h = absurd h

apart_ne : (a b : Bool) → T (differ a b) → a ≡ b → ⊥
apart_ne true b t e = subst (λ c. T (not c)) (sym e) t
apart_ne false b t e = subst T (sym e) t

some_at : (p : Test → Bool) (ts : List Test) → T (some p ts) → (t : Test) × Memᴰ t ts × T (p t)
some_at p [] t = absurd t
some_at p (x ∷ xs) t = by (either (p x) (some p xs) t) (some_at p xs)
  where
    by : T (p x) ⊎ T (some p xs) → (T (some p xs) → (s : Test) × Memᴰ s xs × T (p s)) → (s : Test) × Memᴰ s (x ∷ xs) × T (p s)
    by (inl h) rest = (x, Memᴰ.head refl, h)
    by (inr h) rest = let r : _ = rest h in (r.0, Memᴰ.tail r.1, r.2)

same_self : (xs : List ℕ) → same_list xs xs ≡ true
same_self [] = refl
same_self (x ∷ xs) = ap₂ ◌&&◌ (eq-eqb x x refl) (same_self xs)

same-is : (t : Test) → same t t ≡ true
same-is t = ap₂ ◌&&◌ (eq-eqb t.start t.start refl) (ap₂ ◌&&◌ (eq-eqb t.width t.width refl) (same_self t.among))

member-known : (ts : List Test) (t : Test) → Memᴰ t ts → T (known ts t)
member-known [] t x' = elim x' [ ]
member-known (s ∷ ss) t (Memᴰ.head e) = subst (λ x. T (cond (same t x) true (known ss t))) e (is_true (ap (λ b. cond b true (known ss t)) (same-is t)))
member-known (s ∷ ss) t (Memᴰ.tail m) = by (same t s) (member-known ss t m)
  where
    by : (b : Bool) → T (known ss t) → T (cond b true (known ss t))
    by true h = tt
    by false h = h

data Pair (xs ys : List Row) (f g : Test → Bool) : Type 0 where
  equal : xs ≡ ys → Pair xs ys f g
  told_by : (t : Test) → (f t ≡ g t → ⊥) → place xs t < length xs → place ys t < length ys → (length xs ≡ length ys → place xs t ≡ place ys t) → Pair xs ys f g

module _ (t : Table) (k : T (regular t)) (f g : Test → Bool) where
  ts : List Test
  ts = named t.lines tests

  all : T (regular_by t.lines ts)
  unfolding ts
  all = both_right (knows_lines tests t.lines) _ k

  names : T (knows_lines ts t.lines)
  unfolding ts
  names = both_left (knows_lines ts t.lines) (pairs t.lines ts) all

  F : Test → Bool
  F = given ts (map f ts)

  G : Test → Bool
  G = given ts (map g ts)

  under : List Bool → List Bool → Bool
  under bs cs = pair_at t.lines ts (given ts bs) (given ts cs)

  here : T (pair_at t.lines ts F G)
  unfolding ts F G under
  here =
      let p : T (at_all (length ts) (λ bs. at_all (length ts) (under bs))) = both_right (knows_lines ts t.lines) (pairs t.lines ts) all in
      let q : T (at_all (length ts) (under (map f ts))) =
      all-at (λ bs. at_all (length ts) (under bs)) (map f ts) (subst (λ n. T (at_all n (λ bs. at_all (length ts) (under bs)))) (sym (length-map ts f)) p) in
      all-at (under (map f ts)) (map g ts) (subst (λ n. T (at_all n (under (map f ts)))) (sym (length-map ts g)) q)

  kept : (keep F t.lines ≡ keep f t.lines) × (keep G t.lines ≡ keep g t.lines)
  unfolding F G
  kept = (keep-is f ts t.lines names, keep-is g ts t.lines names)

  known_is : (x : Test) → Memᴰ x ts → (F x ≡ f x) × (G x ≡ g x)
  unfolding F G
  known_is x m = let n : T (known ts x) = member-known ts x m in (given_is f ts x n, given_is g ts x n)

  pair_by : Pair (keep F t.lines) (keep G t.lines) f g
  pair_by = by (either (same_bools (met_by F t.lines) (met_by G t.lines)) _ here)
    where
      by : T (same_bools (met_by F t.lines) (met_by G t.lines)) ⊎ T (some (apart (keep F t.lines) (keep G t.lines) F G) ts) → Pair (keep F t.lines) (keep G t.lines) f g
      by (inl h) = equal (same_kept F G t.lines h)
      by (inr h) =
          let xs : List Row = keep F t.lines in
          let ys : List Row = keep G t.lines in
          let r : _ = some_at (apart xs ys F G) ts h in
          let x : Test = r.0 in
          let e : _ = known_is x r.1 in
          let q : _ = both_right (differ (F x) (G x)) _ r.2 in
          let q₁ : _ = both_right (has xs x) _ q in
          let q₂ : _ = both_right (has ys x) _ q₁ in
          told_by x
          (λ d. apart_ne (F x) (G x) (both_left (differ (F x) (G x)) _ r.2) (e.0 ∙ d ∙ sym e.1))
          (ltb→lt (place xs x) (length xs) (both_left (has xs x) _ q))
          (ltb→lt (place ys x) (length ys) (both_left (has ys x) _ q₁))
          (λ d. eqb→eq (place xs x) (place ys x) (unless (eqb (length xs) (length ys)) _ q₂ (is_true (eq-eqb (length xs) (length ys) d))))

  pair_at_lem : Pair (keep f t.lines) (keep g t.lines) f g
  pair_at_lem =
      subst (λ xs. Pair xs (keep g t.lines) f g) kept.0 (subst (λ ys. Pair (keep F t.lines) ys f g) kept.1 pair_by)

  -- A test whose row is not in the set does not matter: two ways that agree on the tests that have one pick the same rows.
  settled : (xs : List Row) → xs ≡ keep f t.lines → ((x : Test) → place xs x < length xs → f x ≡ g x) → xs ≡ keep g t.lines
  settled xs is agree = by (subst (λ zs. Pair zs (keep g t.lines) f g) (sym is) pair_at_lem)
    where
      by : Pair xs (keep g t.lines) f g → xs ≡ keep g t.lines
      by (equal e) = e
      by (told_by x d p q s) = absurd (d (agree x p))

-- What a list answers to a test that has its row in the set is told by the number at the row's place.

leaf-place : (rows : List Row) (leaves : List ℕ) (x : Test) → length rows ≡ length leaves → place rows x < length rows
    → leaf_at rows leaves x.start x.width ≡ get_or leaves (place rows x) 0
leaf-place [] leaves x m h = absurd (not-suc-le-zero h)
leaf-place (r ∷ rs) [] x m h = absurd (omega arith)
leaf-place (r ∷ rs) (v ∷ vs) x m h = by (is_row x.start x.width r) h (leaf-place rs vs x (omega arith))
  where
    by : (b : Bool) → cond b 0 (suc (place rs x)) < suc (length rs) → (place rs x < length rs → leaf_at rs vs x.start x.width ≡ get_or vs (place rs x) 0)
        → cond b v (leaf_at rs vs x.start x.width) ≡ get_or (v ∷ vs) (cond b 0 (suc (place rs x))) 0
    by true h rest = refl
    by false h rest = rest (omega arith)

placed : (t : Table) (rows : List Row) (leaves : List ℕ) (x : Test) → length (leaf_rows t rows) ≡ length leaves → place rows x < length rows
    → (length rows ≡ length leaves) × (answers (leaf_rows t rows) leaves x ≡ member (get_or leaves (place rows x) 0) x.among)
unfolding answers
placed t [] leaves x m h = absurd (not-suc-le-zero h)
placed t (r ∷ rs) leaves x m h = (m, ap (λ n. member n x.among) (leaf-place (r ∷ rs) leaves x m h))

-- At most one set of rows of a table fits a list.
pub one-fits : (t : Table) → T (regular t) → (leaves : List ℕ) (xs ys : List Row) → Fits t leaves xs → Fits t leaves ys → xs ≡ ys
one-fits t k leaves xs ys a b =
    let f : Test → Bool = answers (leaf_rows t xs) leaves in
    let g : Test → Bool = answers (leaf_rows t ys) leaves in
    by (subst (λ zs. Pair zs ys f g) (sym a.conditions) (subst (λ zs. Pair (keep f t.lines) zs f g) (sym b.conditions) (pair_at_lem t k f g)))
  where
    by : Pair xs ys (answers (leaf_rows t xs) leaves) (answers (leaf_rows t ys) leaves) → xs ≡ ys
    by (equal e) = e
    by (told_by x d p q s) =
        let u : _ = placed t xs leaves x a.many p in
        let v : _ = placed t ys leaves x b.many q in
        absurd (d (u.1 ∙ ap (λ n. member (get_or leaves n 0) x.among) (s (u.0 ∙ sym v.0)) ∙ sym v.1))

-- The fields of a value at the rows of a set answer the tests that have a row in it as the value does.

leaf-field : (v : ℕ) (rows : List Row) (x : Test) → place rows x < length rows → leaf_at rows (map (value_in v) rows) x.start x.width ≡ field_of v x.start x.width
leaf-field v [] x h = absurd (not-suc-le-zero h)
leaf-field v (r ∷ rs) x h = by (is_row x.start x.width r) refl h (leaf-field v rs x)
  where
    by : (b : Bool) → is_row x.start x.width r ≡ b → cond b 0 (suc (place rs x)) < suc (length rs)
        → (place rs x < length rs → leaf_at rs (map (value_in v) rs) x.start x.width ≡ field_of v x.start x.width)
        → cond b (value_in v r) (leaf_at rs (map (value_in v) rs) x.start x.width) ≡ field_of v x.start x.width
    by true e h rest =
        let q : T (is_row x.start x.width r) = is_true e in
        ap₂ (field_of v) (eqb→eq r.start x.start (both_left (eqb r.start x.start) _ q)) (eqb→eq r.width x.width (both_right (eqb r.start x.start) _ q))
    by false e h rest = rest (omega arith)

own : (t : Table) (v : ℕ) (rows : List Row) (x : Test) → place rows x < length rows → answers (leaf_rows t rows) (map (value_in v) (leaf_rows t rows)) x ≡ passes v x
unfolding answers passes
own t v [] x h = absurd (not-suc-le-zero h)
own t v (r ∷ rs) x h = ap (λ n. member n x.among) (leaf-field v (r ∷ rs) x h)

rows_are : (t : Table) (v : ℕ) → rows_for t v ≡ keep (passes v) t.lines
unfolding rows_for
rows_are t v = refl

module _ (t : Table) (k : T (regular t)) (v : ℕ) where
  -- The rows of a value fit its own fields.
  pub fits-own : Fits t (map (value_in v) (leaf_rows t (rows_for t v))) (rows_for t v)
  fits-own =
      record {
        many = sym (length-map (leaf_rows t (rows_for t v)) (value_in v));
        conditions = settled t k (passes v) (answers (leaf_rows t (rows_for t v)) (map (value_in v) (leaf_rows t (rows_for t v)))) (rows_for t v) (rows_are t v) (λ x h. sym (own t v (rows_for t v) x h));
      }

  -- A set of rows that fits a value's fields at these rows is the value's own.
  pub own-fits : (rows : List Row) → Fits t (map (value_in v) (leaf_rows t rows)) rows → rows_for t v ≡ rows
  unfolding rows_for
  own-fits rows a =
      sym (settled t k (answers (leaf_rows t rows) (map (value_in v) (leaf_rows t rows))) (passes v) rows a.conditions (own t v rows))
