-- What is chosen is chosen alone, since at most one set of rows fits; and an outcome that the leaves tell is the one whose rows fit.
use Rattle.std.proofs.Common.{◌≡◌, ℕ, zero, suc, ◌%◌, ◌^◌, ◌<◌, ◌≤◌, Bool, true, false, true≢false, Option, Some, None, cond, ◌&&◌, T, eqb, ltb, List, [], ◌∷◌, length, get_or, sym, refl, ap, ◌∙◌, subst, ap₂, not-suc-le-zero, mod-eq_of_lt, arith, eqb→eq, ltb-false, ltb-true, le-ltb, lt-ltb, eq-eqb}
use Rattle.std.specs.Prelude.{MatchOption}
use Rattle.promise.proofs.Tests.{both_left, both_right, is_true}
use Rattle.refusals.specs.Refusals.{bare}
use Rattle.refusals.specs.declared.Reason.TheVariants.{WideLeaf}
use Rattle.records.specs.declared.Row.{Row}
use Rattle.tables.specs.Shape.{Table, tests}
use Rattle.tables.specs.Applying.{rows_for}
use Rattle.tables.proofs.Laws.{knows_lines}
use Rattle.tables.proofs.Sound.{tiles, tiled}
use Rattle.layouts.specs.Layouts.{table_of, layout_number, empty, pad}
use Rattle.layouts.proofs.Indices.{table-has, number-sound}
use Rattle.layout_sets.specs.Fitting.{leaf_rows, answers, Fits}
use Rattle.layout_sets.specs.Outcomes.{sets, outcome_of, index_of}
use Rattle.layout_sets.proofs.Fitting.{regular, regular-table, regular-msr, one-fits}
use Rattle.layout_sets.proofs.Outcomes.{set_at, index_less}
use Rattle.esr.proofs.Laws.{past-empty}
use Rattle.maker.specs.Laid.{rows_at, Low, Bounded, tells_at, FitsAt, one, none}
use Rattle.maker.specs.Making.{Choice, no_class, no_layout, chosen, Chooses, unserved, unfit, fit, table_for, in_widths, value_of, nothing, judged, made_at}
use Rattle.maker.specs.Promises.{index_for, Fitting}
use Rattle.maker.proofs.Packing.{First, first, packed_less}

pub number-regular : (n : ℕ) → T (regular (table_of n))
number-regular n = table-has (λ t. T (regular t)) regular-msr (λ s m. regular-table m) n

-- One choice.
pub one_choice : (class : ℕ) (leaves : List ℕ) {a b : Choice} → Chooses class leaves a → Chooses class leaves b → a ≡ b
one_choice class leaves (unserved e) (unserved f) = refl
one_choice class leaves (unserved e) (unfit h n) = absurd (h e)
one_choice class leaves (unserved e) (fit h ys k) = absurd (h e)
one_choice class leaves (unfit h n) (unserved f) = absurd (h f)
one_choice class leaves (unfit h n) (unfit k m) = refl
one_choice class leaves (unfit h n) (fit k ys m) = absurd (n ys m)
one_choice class leaves (fit h xs k) (unserved f) = absurd (h f)
one_choice class leaves (fit h xs k) (unfit g n) = absurd (n xs k)
one_choice class leaves (fit h xs k) (fit g ys m) = ap chosen (one-fits (table_for class) (number-regular (layout_number class)) leaves xs ys k m)

-- An outcome that the leaves tell.

module _ (number : ℕ) (leaves : List ℕ) where
  knows : T (knows_lines tests (table_of number).lines)
  knows = both_left (knows_lines tests (table_of number).lines) _ (number-regular number)

  pub told-fits : (index : ℕ) → index < sets → tells_at number index leaves ≡ true → FitsAt number leaves (Some index)
  unfolding tells_at
  told-fits index less told =
      let rows : List Row = rows_for (table_of number) (outcome_of index) in
      let t : T (eqb (length (rows_at number index)) (length leaves) && eqb (index_of (answers (rows_at number index) leaves)) index) = is_true told in
      let m : length (rows_at number index) ≡ length leaves = eqb→eq _ _ (both_left (eqb (length (rows_at number index)) (length leaves)) _ t) in
      let i : index_of (answers (rows_at number index) leaves) ≡ index = eqb→eq _ _ (both_right (eqb (length (rows_at number index)) (length leaves)) _ t) in
      one index less
      (record {
        many = m;
        conditions = sym (set_at (rows_at number index) leaves (table_of number) knows ∙ ap (λ (k : ℕ). rows_for (table_of number) (outcome_of k)) i);
      })
      (sym i)

  pub untold : ((j : ℕ) → j < sets → tells_at number j leaves ≡ true → ⊥) → (rows : List Row) → Fits (table_of number) leaves rows → ⊥
  unfolding tells_at
  untold h rows f =
      let t : Table = table_of number in
      let k : ℕ = index_of (answers (leaf_rows t rows) leaves) in
      let e : rows ≡ rows_for t (outcome_of k) = f.conditions ∙ set_at (leaf_rows t rows) leaves t knows in
      h k (index_less (answers (leaf_rows t rows) leaves))
      (subst (λ (zs : List Row). eqb (length (leaf_rows t zs)) (length leaves) && eqb (index_of (answers (leaf_rows t zs) leaves)) k ≡ true) e
      (ap₂ ◌&&◌ (eq-eqb (length (leaf_rows t rows)) (length leaves) f.many) (eq-eqb k k refl)))

  -- what a search for such an outcome finds
  pub found_fits : (r : Option ℕ)
      → MatchOption r ((k : ℕ) → 0 ≤ k → k < sets → tells_at number k leaves ≡ true → ⊥)
      (λ (i : ℕ). (0 ≤ i) × (i < sets) × (tells_at number i leaves ≡ true)
      × ((k : ℕ) → 0 ≤ k → k < i → tells_at number k leaves ≡ true → ⊥))
      → FitsAt number leaves r
  found_fits None h = none (untold (λ j l. h j (omega arith) l))
  found_fits (Some i) h = told-fits i h.1 h.2

-- The rows of the leaves leave no gap.

pub leaf-tiles : (t : Table) (rows : List Row) → T (tiled rows) → T (tiles 25 (leaf_rows t rows))
leaf-tiles t [] h = tt
leaf-tiles t (r ∷ rs) h = h

pub fit-tiles : (number : ℕ) (leaves : List ℕ) (rows : List Row) → Fits (table_of number) leaves rows → T (tiles 25 (leaf_rows (table_of number) rows))
fit-tiles number leaves rows f =
    let t : Table = table_of number in
    let k : ℕ = index_of (answers (leaf_rows t rows) leaves) in
    subst (λ (zs : List Row). T (tiles 25 (leaf_rows t zs))) (sym (f.conditions ∙ set_at (leaf_rows t rows) leaves t (knows number leaves)))
    (leaf-tiles t (rows_for t (outcome_of k)) (number-sound number (outcome_of k)).tile)

-- The rows at an outcome start within ISS, and leaves in their widths fit it.

module _ (number index : ℕ) where
  tiles_at : T (tiles 25 (rows_at number index))
  tiles_at =
      leaf-tiles (table_of number) (rows_for (table_of number) (outcome_of index))
      (number-sound number (outcome_of index)).tile

  pub low_at : Low (rows_at number index)
  low_at i h =
      let b : (get_or (rows_at number index) i pad).start ≤ 25 = below 25 (rows_at number index) tiles_at i h in
      omega (arith, b)
    where
      below : (top : ℕ) (rows : List Row) → T (tiles top rows) → (i : ℕ) → i < length rows
          → (get_or rows i pad).start ≤ top
      below top [] t i h = absurd (not-suc-le-zero h)
      below top (r ∷ rs) t zero h = let f : First top r rs = first top r rs t in omega (arith, f.end)
      below top (r ∷ rs) t (suc i) h =
          let f : First top r rs = first top r rs t in
          omega (arith, f.end, below r.start rs f.rest i (omega arith))

  pub bounded_at : (leaves : List ℕ) → Bounded (rows_at number index) leaves
  bounded_at leaves w = packed_less 25 (rows_at number index) leaves tiles_at (is_true w)

-- a class that is served is one of six bits
pub served_less : (class number : ℕ) → number ≡ layout_number class → (number ≡ empty → ⊥) → class < 64
served_less class number n h = by (ltb class 64) refl
  where
    by : (b : Bool) → ltb class 64 ≡ b → class < 64
    by true e = ltb-true class 64 e
    by false e = absurd (h (n ∙ past-empty class (ltb-false class 64 e)))

-- What is made at rows, by the tests of the code.
module _ (class il iss2 : ℕ) (rows : List Row) (leaves : List ℕ) where
  made_by : (b : Bool) → in_widths rows leaves && (ltb iss2 (2 ^ 5) && ltb il 2) ≡ b → cond b (judged (value_of class il iss2 rows leaves)) (nothing (bare WideLeaf)) ≡ made_at class il iss2 rows leaves
  unfolding made_at
  made_by b e = ap (λ (c : Bool). cond c (judged (value_of class il iss2 rows leaves)) (nothing (bare WideLeaf))) (sym e)

  pub wide_leaf : in_widths rows leaves ≡ false → nothing (bare WideLeaf) ≡ made_at class il iss2 rows leaves
  wide_leaf h = made_by false (ap (λ (b : Bool). b && (ltb iss2 (2 ^ 5) && ltb il 2)) h)

  pub wide_iss2 : in_widths rows leaves ≡ true → 32 ≤ iss2 → nothing (bare WideLeaf) ≡ made_at class il iss2 rows leaves
  wide_iss2 h k = made_by false (ap₂ (λ (a b : Bool). a && (b && ltb il 2)) h (le-ltb iss2 (2 ^ 5) k))

  pub wide_il : in_widths rows leaves ≡ true → iss2 < 32 → 2 ≤ il → nothing (bare WideLeaf) ≡ made_at class il iss2 rows leaves
  wide_il h k l = made_by false (ap₂ ◌&&◌ h (ap₂ ◌&&◌ (lt-ltb iss2 (2 ^ 5) k) (le-ltb il 2 l)))

  pub all_fit : in_widths rows leaves ≡ true → iss2 < 32 → il < 2 → judged (value_of class il iss2 rows leaves) ≡ made_at class il iss2 rows leaves
  all_fit h k l = made_by true (ap₂ ◌&&◌ h (ap₂ ◌&&◌ (lt-ltb iss2 (2 ^ 5) k) (lt-ltb il 2 l)))

-- What is packed into ISS does not wrap.
pub unwrapped : (p iss : ℕ) → p < 2 ^ 25 → iss ≡ p % 2 ^ 64 → iss ≡ p
unwrapped p iss h e = e ∙ mod-eq_of_lt {n = p} {m = 2 ^ 64} (omega arith)

-- The promises, by what the code finds.
module _ (class : ℕ) (leaves : List ℕ) (number : ℕ) (n : number ≡ layout_number class) where
  pub choose_none : number ≡ empty → Chooses class leaves no_class
  choose_none e = unserved (sym n ∙ e)

  module _ (h : number ≡ empty → ⊥) where
    served : layout_number class ≡ empty → ⊥
    served e = h (n ∙ e)

    pub fitting-is : (r : Option ℕ) → FitsAt number leaves r → Fitting (class, leaves) r
    fitting-is r f = by (subst (λ (k : ℕ). FitsAt k leaves r) n f)
      where
        by : {r : Option ℕ} → FitsAt (layout_number class) leaves r → Fitting (class, leaves) r
        by (one k less fits i) =
            let rows = rows_for (table_for class) (outcome_of k) in
            (chosen rows, fit served rows fits, ap (λ (j : ℕ). Some j) i)
        by (none never) = (no_layout, unfit served never, refl)

    pub choose_unfit : FitsAt number leaves None → Chooses class leaves no_layout
    choose_unfit f = by (subst (λ (k : ℕ). FitsAt k leaves None) n f)
      where
        by : FitsAt (layout_number class) leaves None → Chooses class leaves no_layout
        by (none never) = unfit served never

    pub fits-is : (r : ℕ) → FitsAt number leaves (Some r)
        → Fits (table_of number) leaves (rows_for (table_of number) (outcome_of r))
    fits-is r (one k less fits i) = fits

    pub choose_fit : (rows : List Row) → Fits (table_of number) leaves rows → Chooses class leaves (chosen rows)
    choose_fit rows f = fit served rows (subst (λ (k : ℕ). Fits (table_of k) leaves rows) n f)

-- The rows at the index that is answered are those that fit.

abbrev is_some : Option ℕ → Bool
is_some None = false
is_some (Some k) = true

abbrev index_in : Option ℕ → ℕ
index_in None = sets
index_in (Some k) = k

pub fitting-rows : (class : ℕ) (leaves : List ℕ) (r : ℕ) → Fitting (class, leaves) (Some r)
    → Fits (table_for class) leaves (rows_for (table_for class) (outcome_of r))
fitting-rows class leaves r p = by p.1 p.2
  where
    by : {c : Choice} → Chooses class leaves c → Some r ≡ index_for class leaves c
        → Fits (table_for class) leaves (rows_for (table_for class) (outcome_of r))
    by (unserved n) e = absurd (true≢false (ap is_some e))
    by (unfit n never) e = absurd (true≢false (ap is_some e))
    by (fit n rows f) e =
        subst (λ (zs : List Row). Fits (table_for class) leaves zs)
        (f.conditions
        ∙ set_at (leaf_rows (table_for class) rows) leaves (table_for class) (knows (layout_number class) leaves)
        ∙ ap (λ (k : ℕ). rows_for (table_for class) (outcome_of k)) (sym (ap index_in e)))
        f
