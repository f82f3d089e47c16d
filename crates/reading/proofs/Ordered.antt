-- The checks of a layout in 01's order are those that the decoder makes, and cover every row that asks something: rows that tile ISS start at
-- different bits, so that a start names one row.
use Rattle.std.proofs.Common.{◌≡◌, ℕ, ◌+◌, ◌<◌, ◌≤◌, Bool, true, false, cond, not, ◌&&◌, ◌||◌, T, eqb, leb, ◌⊎◌, List, [], ◌∷◌, ◌++◌, sym, refl, ap, ◌∙◌, subst, inl, inr, arith, eqb→eq, leb→le, eq-eqb}
use mathlib.Core.List.Memᴰ
use mathlib.Core.List.{Memᴰ}
use Rattle.promise.specs.Member.{member}
use Rattle.promise.proofs.Tests.{both_left, both_right, both_intro, is_true, every, every_mem}
use Rattle.records.specs.Rows.{value_in, meets, row_kind}
use Rattle.records.specs.Kinds.{Kind, Free, Unchecked, Checked, Coded, allows}
use Rattle.records.specs.declared.Row.{Row}
use Rattle.tables.specs.Applying.{is_check, is_check_at, check_at, in_order}
use Rattle.tables.proofs.Sound.{tiles, tiled, covers}
use Rattle.reading.specs.Refusing.{IsCheck, coded, checked, CheckAt, Ordered, none, check, away}
use Rattle.reading.proofs.Judge.{Pass}

-- Rows that leave no gap start at different bits.

below : (row : Row) (top : ℕ) (rows : List Row) → T (tiles top rows) → Memᴰ row rows → row.start < top
below row top [] t m = elim m [ ]
below row top (r ∷ rs) t m = by (Memᴰ.cases_cons m) (below row r.start rs (both_right (leb 1 r.width) _ u))
  where
    u : T (leb 1 r.width && tiles r.start rs)
    u = both_right (eqb (r.start + r.width) top) _ t

    here : r.start < top
    here =
        let e : r.start + r.width ≡ top = eqb→eq (r.start + r.width) top (both_left (eqb (r.start + r.width) top) _ t) in
        let w : 1 ≤ r.width = leb→le 1 r.width (both_left (leb 1 r.width) _ u) in
        omega arith

    by : (row ≡ r) ⊎ Memᴰ row rs → (Memᴰ row rs → row.start < r.start) → row.start < top
    by (inl e) rest = subst (λ (x : Row). x.start < top) (sym e) here
    by (inr k) rest = let a : row.start < r.start = rest k in let b : r.start < top = here in omega arith

same_start : (a b : Row) (top : ℕ) (rows : List Row) → T (tiles top rows) → Memᴰ a rows → Memᴰ b rows → a.start ≡ b.start → a ≡ b
same_start a b top [] t m n e = absurd (Memᴰ.not-nil m)
same_start a b top (r ∷ rs) t m n e = by (Memᴰ.cases_cons m) (Memᴰ.cases_cons n) (λ k l. same_start a b r.start rs v k l e)
  where
    v : T (tiles r.start rs)
    v = both_right (leb 1 r.width) _ (both_right (eqb (r.start + r.width) top) _ t)

    by : (a ≡ r) ⊎ Memᴰ a rs → (b ≡ r) ⊎ Memᴰ b rs → (Memᴰ a rs → Memᴰ b rs → a ≡ b) → a ≡ b
    by (inl p) (inl q) rest = p ∙ sym q
    by (inl p) (inr l) rest =
        let h : b.start < r.start = below b r.start rs v l in let f : a.start ≡ r.start = ap (λ (x : Row). x.start) p in absurd (omega arith)
    by (inr k) (inl q) rest =
        let h : a.start < r.start = below a r.start rs v k in let f : b.start ≡ r.start = ap (λ (x : Row). x.start) q in absurd (omega arith)
    by (inr k) (inr l) rest = rest k l

one-start : (a b : Row) (rows : List Row) → T (tiled rows) → Memᴰ a rows → Memᴰ b rows → a.start ≡ b.start → a ≡ b
one-start a b [] t m n e = absurd (Memᴰ.not-nil m)
one-start a b (r ∷ rs) t m n e = same_start a b 25 (r ∷ rs) t m n e

-- A row that asks something, and its computed test.

pub is_check-test : (k : Kind) → IsCheck k → T (is_check k)
is_check-test Free m = elim m [ ]
is_check-test Unchecked m = elim m [ ]
is_check-test (Coded reason) coded = tt
is_check-test Checked checked = tt

pub test-is-check : (k : Kind) → T (is_check k) → IsCheck k
test-is-check Free t = absurd t
test-is-check (Coded reason) t = coded
test-is-check Checked t = checked
test-is-check Unchecked t = absurd t

is_check_at-test : {rows : List Row} {s : ℕ} {row : Row} → CheckAt rows s row → T (is_check_at s row)
is_check_at-test {rows} {s} {row} a = both_intro (eqb row.start s) (is_check (row_kind row)) (is_true (eq-eqb row.start s a.starts)) (is_check-test (row_kind row) a.is_check)

test-is_check_at : (rows : List Row) (s : ℕ) (row : Row) → Memᴰ row rows → T (is_check_at s row) → CheckAt rows s row
test-is_check_at rows s row m t =
    record {
      among = m;
      starts = eqb→eq row.start s (both_left (eqb row.start s) (is_check (row_kind row)) t);
      is_check = test-is-check (row_kind row) (both_right (eqb row.start s) (is_check (row_kind row)) t);
    }

-- the row that starts at s and asks something, or that there is none
data Look (rows : List Row) (s : ℕ) : Type 0 where
  missing : check_at rows s ≡ [] → ((row : Row) → CheckAt rows s row → ⊥) → Look rows s
  found : (row : Row) → check_at rows s ≡ row ∷ [] → CheckAt rows s row → Look rows s

look : (rows : List Row) (s : ℕ) → Look rows s
look [] s = missing refl (λ row a. Memᴰ.not-nil a.among)
look (r ∷ rs) s = by (is_check_at s r) refl (look rs s)
  where
    not_here : is_check_at s r ≡ false → ((row : Row) → CheckAt rs s row → ⊥) → (row : Row) → T (is_check_at s row) → (row ≡ r) ⊎ Memᴰ row rs → ⊥
    not_here e h row t (inl q) = subst T e (subst (λ (x : Row). T (is_check_at s x)) q t)
    not_here e h row t (inr k) = h row (test-is_check_at rs s row k t)

    by : (b : Bool) → is_check_at s r ≡ b → Look rs s → Look (r ∷ rs) s
    by true e rest = found r (ap (λ (b : Bool). cond b (r ∷ []) (check_at rs s)) e) (test-is_check_at (r ∷ rs) s r (Memᴰ.head refl) (is_true e))
    by false e (missing p h) =
        missing (ap (λ (b : Bool). cond b (r ∷ []) (check_at rs s)) e ∙ p) (λ row a. not_here e h row (is_check_at-test a) (Memᴰ.cases_cons a.among))
    by false e (found row p a) =
        found row (ap (λ (b : Bool). cond b (r ∷ []) (check_at rs s)) e ∙ p) (test-is_check_at (r ∷ rs) s row (Memᴰ.tail a.among) (is_check_at-test a))

-- The decoder's checks are in 01's order, and no others are.
pub ordered_of : (rows : List Row) (ss : List ℕ) → Ordered rows ss (in_order rows ss)
ordered_of rows [] = none
ordered_of rows (s ∷ ss) = by (look rows s) (ordered_of rows ss)
  where
    by : Look rows s → Ordered rows ss (in_order rows ss) → Ordered rows (s ∷ ss) (check_at rows s ++ in_order rows ss)
    by (missing p h) rest = subst (λ (xs : List Row). Ordered rows (s ∷ ss) (xs ++ in_order rows ss)) (sym p) (away h rest)
    by (found row p a) rest = subst (λ (xs : List Row). Ordered rows (s ∷ ss) (xs ++ in_order rows ss)) (sym p) (check a rest)

module _ (rows : List Row) (t : T (tiled rows)) where
  -- the row that asks something at a start is the one that is found there
  check-at : (s : ℕ) (row : Row) → CheckAt rows s row → check_at rows s ≡ row ∷ []
  check-at s row a = by (look rows s)
    where
      by : Look rows s → check_at rows s ≡ row ∷ []
      by (missing p h) = absurd (h row a)
      by (found x p b) = p ∙ ap (λ (y : Row). y ∷ []) (one-start x row rows t b.among a.among (b.starts ∙ sym a.starts))

  pub ordered-is : (ss : List ℕ) (cs : List Row) → Ordered rows ss cs → cs ≡ in_order rows ss
  ordered-is [] cs none = refl
  ordered-is (s ∷ ss) ds (check {row} {cs} a o) =
      ap (λ (xs : List Row). row ∷ xs) (ordered-is ss cs o) ∙ ap (λ (xs : List Row). xs ++ in_order rows ss) (sym (check-at s row a))
  ordered-is (s ∷ ss) cs (away h o) = by (look rows s) (ordered-is ss cs o)
    where
      by : Look rows s → cs ≡ in_order rows ss → cs ≡ check_at rows s ++ in_order rows ss
      by (missing p k) rest = rest ∙ ap (λ (xs : List Row). xs ++ in_order rows ss) (sym p)
      by (found row p a) rest = absurd (h row a)

  -- a row that asks something and whose start is in the order is checked
  checked-row : (row : Row) → Memᴰ row rows → T (is_check (row_kind row)) → (ss : List ℕ) → T (member row.start ss) → Memᴰ row (in_order rows ss)
  checked-row row m k [] h = absurd h
  checked-row row m k (s ∷ ss) h = by (eqb row.start s) refl h (checked-row row m k ss)
    where
      later : (xs : List Row) → Memᴰ row (in_order rows ss) → Memᴰ row (xs ++ in_order rows ss)
      later [] n = n
      later (x ∷ xs) n = Memᴰ.tail (later xs n)

      by : (b : Bool) → eqb row.start s ≡ b → T (cond b true (member row.start ss)) → (T (member row.start ss) → Memᴰ row (in_order rows ss))
          → Memᴰ row (check_at rows s ++ in_order rows ss)
      by true e h rest =
          subst (λ (xs : List Row). Memᴰ row (xs ++ in_order rows ss))
          (sym (check-at s row (test-is_check_at rows s row m (both_intro (eqb row.start s) (is_check (row_kind row)) (is_true e) k)))) (Memᴰ.head refl)
      by false e h rest = later (check_at rows s) (rest h)

-- what is checked is one of the rows
pub checked-among : (rows : List Row) (ss : List ℕ) (row : Row) → Memᴰ row (in_order rows ss) → Memᴰ row rows
checked-among rows [] row m = absurd (Memᴰ.not-nil m)
checked-among rows (s ∷ ss) row m = by (look rows s) (checked-among rows ss row) m
  where
    split : {x : Row} → CheckAt rows s x → (row ≡ x) ⊎ Memᴰ row (in_order rows ss) → (Memᴰ row (in_order rows ss) → Memᴰ row rows) → Memᴰ row rows
    split a (inl e) rest = subst (λ (y : Row). Memᴰ y rows) (sym e) a.among
    split a (inr k) rest = rest k

    by : Look rows s → (Memᴰ row (in_order rows ss) → Memᴰ row rows) → Memᴰ row (check_at rows s ++ in_order rows ss) → Memᴰ row rows
    by (missing p h) rest m = rest (subst (λ (xs : List Row). Memᴰ row (xs ++ in_order rows ss)) p m)
    by (found x p a) rest m = split a (Memᴰ.cases_cons (subst (λ (xs : List Row). Memᴰ row (xs ++ in_order rows ss)) p m)) rest

-- a row that asks nothing is met
silent : (v : ℕ) (row : Row) → is_check (row_kind row) ≡ false → T (meets v row)
unfolding meets
silent v row e = by (row_kind row) e
  where
    by : (k : Kind) → is_check k ≡ false → T (allows k row.rule (value_in v row))
    by Free e = tt
    by (Coded reason) e = absurd (subst T e tt)
    by Checked e = absurd (subst T e tt)
    by Unchecked e = tt

-- All rows are met exactly where those that are checked are.
module _ (v : ℕ) (rows : List Row) (order : List ℕ) where
  pub checks-pass : T (tiled rows) → T (every (covers order) 0 rows) → Pass v (in_order rows order) → Pass v rows
  checks-pass t c p row m = by (is_check (row_kind row)) refl (every_mem (covers order) row 0 rows c m).1
    where
      by : (b : Bool) → is_check (row_kind row) ≡ b → T (not b || member row.start order) → T (meets v row)
      by true e h = p row (checked-row rows t row m (is_true e) order h)
      by false e h = silent v row e

  pub pass-checks : Pass v rows → Pass v (in_order rows order)
  pass-checks p row m = p row (checked-among rows order row m)
