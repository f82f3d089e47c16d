-- The arrays of a layout hold the rows that apply and, at its indices, the rows to check: an index is counted as the row is looked for.
use mathlib.Core.Path.{◌≡◌, refl, sym, ap, ap₂, ◌∙◌, subst}
use mathlib.Core.Bool.{Bool, true, false, cond}
use mathlib.Core.List.{List, [], ◌∷◌, ◌++◌, Memᴰ}
use Prim.Native.Nat.{ℕ, zero, suc, ◌+◌, ◌-◌, ◌≤◌, ◌<◌}
use native.Mathlib.Nat.{add-zero, add-suc, suc-add, zero-add, not-suc-le-zero}
use native.Mathlib.Omega.{arith}
use lib.Dec.{T}
use lib.ListN.{length, get_or, take, replicate, length-append, length-replicate, get_or-append}
use lib.Seq.{take-append_seam}
use Rattle.texts.specs.Names.{names}
use Rattle.texts.specs.Rules.{rules}
use Rattle.texts.specs.Pool.{code, index_in, describes, on_list, rule_at}
use Rattle.records.specs.Kinds.{kind_of}
use Rattle.records.specs.declared.Row.{Row}
use Rattle.tables.specs.Shape.{Table}
use Rattle.tables.specs.Applying.{is_check_at, check_at, in_order, rows_for, checks_for}
use Rattle.tables.specs.Tables.{Served, layouts, msr}
use Rattle.tables.proofs.Sound.{Sound, sound_table, sound, sound-table}
use Rattle.layouts.specs.Layouts.{index_of, indices_of, layout_room, pad, layout_for}
use Rattle.layouts.specs.Layouts.{tables_of, table_of}
use Rattle.layouts.specs.declared.Layout.{Layout}

-- the rows at indices
abbrev pub rows_at : List Row → List ℕ → List Row
rows_at rows [] = []
rows_at rows (k ∷ ks) = get_or rows k pad ∷ rows_at rows ks

rows_append : (rows : List Row) (js ks : List ℕ) → rows_at rows (js ++ ks) ≡ rows_at rows js ++ rows_at rows ks
rows_append rows [] ks = refl
rows_append rows (j ∷ js) ks = ap (λ (rs : List Row). get_or rows j pad ∷ rs) (rows_append rows js ks)

rows-length : (rows : List Row) (ks : List ℕ) → length (rows_at rows ks) ≡ length ks
rows-length rows [] = refl
rows-length rows (k ∷ ks) = ap suc (rows-length rows ks)

-- the row at the index of a start is the row that starts there and asks something
index-row : (all : List Row) (n : ℕ) (rs : List Row) (s : ℕ) → ((j : ℕ) → get_or all (n + j) pad ≡ get_or rs j pad) → rows_at all (index_of n rs s) ≡ check_at rs s
index-row all n [] s same = refl
index-row all n (r ∷ rs) s same =
    by (is_check_at s r) (index-row all (suc n) rs s (λ j. ap (λ (m : ℕ). get_or all m pad) (suc-add n j ∙ sym (add-suc n j)) ∙ same (suc j)))
  where
    by : (b : Bool) → rows_at all (index_of (suc n) rs s) ≡ check_at rs s → rows_at all (cond b (n ∷ []) (index_of (suc n) rs s)) ≡ cond b (r ∷ []) (check_at rs s)
    by true rest = ap (λ (x : Row). x ∷ []) (ap (λ (m : ℕ). get_or all m pad) (sym (add-zero n)) ∙ same 0)
    by false rest = rest

indices_rows : (rows : List Row) (order : List ℕ) → rows_at rows (indices_of rows order) ≡ in_order rows order
indices_rows rows [] = refl
indices_rows rows (s ∷ ss) =
    rows_append rows (index_of 0 rows s) (indices_of rows ss)
    ∙ ap₂ (λ (xs ys : List Row). xs ++ ys) (index-row rows 0 rows s (λ j. ap (λ (m : ℕ). get_or rows m pad) (zero-add j))) (indices_rows rows ss)

indices_length : (rows : List Row) (order : List ℕ) → length (indices_of rows order) ≡ length (in_order rows order)
indices_length rows order = sym (rows-length rows (indices_of rows order)) ∙ ap length (indices_rows rows order)

-- each index is that of a row
abbrev Below : ℕ → List ℕ → Type 0
Below n [] = Unit {0}
Below n (k ∷ ks) = (k < n) × Below n ks

below-append : (n : ℕ) (js ks : List ℕ) → Below n js → Below n ks → Below n (js ++ ks)
below-append n [] ks a b = b
below-append n (j ∷ js) ks a b = (a.0, below-append n js ks a.1 b)

index_below : (n m : ℕ) (rs : List Row) (s : ℕ) → n + length rs ≤ m → Below m (index_of n rs s)
index_below n m [] s h = tt
index_below n m (r ∷ rs) s h = by (is_check_at s r) (index_below (suc n) m rs s (omega arith))
  where
    by : (b : Bool) → Below m (index_of (suc n) rs s) → Below m (cond b (n ∷ []) (index_of (suc n) rs s))
    by true rest = (omega arith, tt)
    by false rest = rest

indices_below : (rows : List Row) (order : List ℕ) → Below (length rows) (indices_of rows order)
indices_below rows [] = tt
indices_below rows (s ∷ ss) = below-append (length rows) (index_of 0 rows s) (indices_of rows ss) (index_below 0 (length rows) rows s (omega arith)) (indices_below rows ss)

below_at : (n : ℕ) (ks : List ℕ) → Below n ks → (i : ℕ) → i < length ks → get_or ks i 0 < n
below_at n [] b i h = absurd (not-suc-le-zero h)
below_at n (k ∷ ks) b zero h = b.0
below_at n (k ∷ ks) b (suc i) h = below_at n ks b.1 i (omega arith)

-- rows past those that the indices name do not matter
padded : (rows more : List Row) (ks : List ℕ) → Below (length rows) ks → rows_at (rows ++ more) ks ≡ rows_at rows ks
padded rows more [] b = refl
padded rows more (k ∷ ks) b = ap₂ (λ (x : Row) (xs : List Row). x ∷ xs) (get_or-append rows more pad k b.0) (padded rows more ks b.1)

-- What holds of every table of the list holds of the table of a number.

module _ (P : Table → Type 0) (none : P msr) where
  listed_has : (ss : List Served) (n : ℕ) → ((s : Served) → Memᴰ s ss → P s.table) → P (get_or (tables_of ss) n msr)
  listed_has [] n h = none
  listed_has (s ∷ ss) zero h = h s (Memᴰ.head refl)
  listed_has (s ∷ ss) (suc n) h = listed_has ss n (λ x m. h x (Memᴰ.tail m))

  pub table-has : ((s : Served) → Memᴰ s layouts → P s.table) → (n : ℕ) → P (table_of n)
  unfolding table_of
  table-has h n = listed_has layouts n h

msr-sound : T (sound_table msr)
unfolding msr names rules code index_in describes on_list rule_at kind_of
msr-sound = tt

pub number-sound : (n v : ℕ) → Sound (rows_for (table_of n) v) (table_of n).order
number-sound n v = sound (table_of n) (table-has (λ t. T (sound_table t)) msr-sound (λ s m. sound-table m) n) v

-- What the arrays hold.

-- rows and checks lie within their arrays, and each check is the index of a row
pub record Fits (l : Layout) : Type 0 where
  pub few : l.count ≤ layout_room
  pub few_checks : l.checked ≤ layout_room
  pub long : length l.rows ≡ layout_room
  pub long_checks : length l.checks ≡ layout_room
  pub within : (i : ℕ) → i < l.checked → get_or l.checks i 0 < layout_room

filled : {A : Type 0} (xs : List A) (x : A) → length xs ≤ layout_room → length (xs ++ replicate (layout_room - length xs) x) ≡ layout_room
filled xs x h = omega (arith, length-append xs (replicate (layout_room - length xs) x), length-replicate (layout_room - length xs) x)

module _ (number iss : ℕ) (l : Layout) (is : l ≡ layout_for (table_of number) iss) where
  pub layout-fits : Fits l
  unfolding layout_for
  layout-fits =
      let rows : List Row = rows_for (table_of number) iss in
      let checks : List ℕ = indices_of rows (table_of number).order in
      let ok : Sound rows (table_of number).order = number-sound number iss in
      let few : length checks ≤ layout_room = omega (arith, ok.few_checks, indices_length rows (table_of number).order) in
      subst Fits (sym is)
      (record {
        few = ok.few;
        few_checks = few;
        long = filled rows pad ok.few;
        long_checks = filled checks 0 few;
        within =
            λ i h.
            let index : get_or checks i 0 < length rows = below_at (length rows) checks (indices_below rows (table_of number).order) i h in
            rw (get_or-append checks (replicate (layout_room - length checks) 0) 0 i h) (omega (arith, ok.few));
      })

  -- the rows at the indices are the table's rows to check, in order
  pub layout-checks : rows_at l.rows (take l.checked l.checks) ≡ checks_for (table_of number) iss
  unfolding layout_for checks_for
  layout-checks =
      let rows : List Row = rows_for (table_of number) iss in
      let checks : List ℕ = indices_of rows (table_of number).order in
      ap (λ (x : Layout). rows_at x.rows (take x.checked x.checks)) is
      ∙ ap (rows_at (layout_for (table_of number) iss).rows) (take-append_seam checks (replicate (layout_room - length checks) 0))
      ∙ padded rows (replicate (layout_room - length rows) pad) checks (indices_below rows (table_of number).order)
      ∙ indices_rows rows (table_of number).order

  -- the rows that are counted are the table's
  pub layout-rows : take l.count l.rows ≡ rows_for (table_of number) iss
  unfolding layout_for
  layout-rows =
      let rows : List Row = rows_for (table_of number) iss in
      ap (λ (x : Layout). take x.count x.rows) is ∙ take-append_seam rows (replicate (layout_room - length rows) pad)

  pub few-rows : length (rows_for (table_of number) iss) ≤ layout_room
  few-rows = (number-sound number iss).few
