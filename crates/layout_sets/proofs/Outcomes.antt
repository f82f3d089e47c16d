-- Every set of rows that a list of leaf values picks is that of an outcome: the tests ask three bits and a status, and each way to answer them is an
-- outcome's, which antt computes.
use mathlib.Core.Path.{◌≡◌, refl, sym, ap, ap₂, ◌∙◌, subst}
use mathlib.Core.Bool.{Bool, true, false, cond, not, ◌&&◌, ◌||◌}
use mathlib.Core.List.{List, [], ◌∷◌, map}
use Prim.Native.Nat.{ℕ, zero, suc, ◌<◌, ◌≤◌}
use native.Mathlib.Nat.{zero-add}
use native.Mathlib.Omega.{arith}
use lib.Dec.{T, eqb, eqb→eq}
use borrow.Author.Tests.{ne_eqb}
use Rattle.promise.specs.Member.{member}
use Rattle.promise.proofs.Tests.{both_left, both_right, is_true, from, from_at}
use Rattle.records.specs.Bits.{field_of}
use Rattle.records.specs.declared.Row.{Row}
use Rattle.tables.specs.Shape.{Test, Table, bit, is_status, is_external, externals, tests}
use Rattle.tables.specs.Applying.{passes, keep, rows_for}
use Rattle.tables.proofs.Laws.{given, knows_lines, keep-is}
use Rattle.layout_sets.specs.Fitting.{leaf_at, answers}
use Rattle.layout_sets.specs.Outcomes.{sets, status_at, outcome_of, kind_by, index_by, index_of, kind_of, index_at}

-- Answers compared.

abbrev pub same_bool : Bool → Bool → Bool
same_bool true b = b
same_bool false b = not b

same_bool_lem : (a b : Bool) → T (same_bool a b) → a ≡ b
same_bool_lem true true t = refl
same_bool_lem true false t = absurd t
same_bool_lem false true t = absurd t
same_bool_lem false false t = refl

abbrev pub same_bools : List Bool → List Bool → Bool
same_bools [] [] = true
same_bools [] (y ∷ ys) = false
same_bools (x ∷ xs) [] = false
same_bools (x ∷ xs) (y ∷ ys) = same_bool x y && same_bools xs ys

pub same_bools_lem : (xs ys : List Bool) → T (same_bools xs ys) → xs ≡ ys
same_bools_lem [] [] t = refl
same_bools_lem [] (y ∷ ys) t = absurd t
same_bools_lem (x ∷ xs) [] t = absurd t
same_bools_lem (x ∷ xs) (y ∷ ys) t = ap₂ ◌∷◌ (same_bool_lem x y (both_left (same_bool x y) (same_bools xs ys) t)) (same_bools_lem xs ys (both_right (same_bool x y) (same_bools xs ys) t))

-- The answers of an outcome: its bits, and those of its kind of status to the three tests of the status.

abbrev status_told : ℕ → List Bool
status_told k = eqb k 1 ∷ eqb k 2 ∷ (eqb k 1 || eqb k 3) ∷ []

abbrev told : Bool → Bool → Bool → ℕ → List Bool
told a b c k = a ∷ b ∷ c ∷ status_told k

abbrev tells_at : Bool → Bool → Bool → ℕ → Bool
tells_at a b c k = same_bools (map (passes (outcome_of (index_by a b c k))) tests) (told a b c k)

abbrev both : (Bool → Bool) → Bool
both p = p true && p false

both_at : (p : Bool → Bool) → T (both p) → (b : Bool) → T (p b)
both_at p t true = both_left (p true) (p false) t
both_at p t false = both_right (p true) (p false) t

-- the computed test
all_told : T (both (λ a. both (λ b. both (λ c. from (tells_at a b c) 0 4))))
unfolding passes outcome_of field_of
all_told = tt

outcome-told : (a b c : Bool) (k : ℕ) → k < 4 → map (passes (outcome_of (index_by a b c k))) tests ≡ told a b c k
outcome-told a b c k h =
    let t : T (from (tells_at a b c) 0 4) =
    both_at (λ z. from (tells_at a b z) 0 4) (both_at (λ y. both (λ z. from (tells_at a y z) 0 4)) (both_at (λ x. both (λ y. both (λ z. from (tells_at x y z) 0 4))) all_told a) b) c in
    same_bools_lem (map (passes (outcome_of (index_by a b c k))) tests) (told a b c k)
    (subst (λ n. T (tells_at a b c n)) (zero-add k) (from_at (tells_at a b c) 0 4 k t h))

-- A number answers the three tests of the status as its kind does.

abbrev status_answers : ℕ → List Bool
status_answers s = member s (0x10 ∷ []) ∷ member s (0x11 ∷ []) ∷ member s externals ∷ []

-- by the outcomes of the comparisons with 0x10 and with 0x11, and of those after 0x10
abbrev Told : Bool → Bool → Bool → Type 0
Told a b r = status_told (kind_by (cond a true false) (cond b true false) (cond a true r)) ≡ cond a true false ∷ cond b true false ∷ cond a true r ∷ []

status-told : (s : ℕ) → status_told (kind_of s) ≡ status_answers s
unfolding kind_of
status-told s = by (eqb s 0x10) (eqb s 0x11) refl refl
  where
    others : Bool
    others = member s (0x12 ∷ 0x13 ∷ 0x14 ∷ 0x15 ∷ 0x16 ∷ 0x17 ∷ [])

    last : (r : Bool) → Told false false r
    last true = refl
    last false = refl

    by : (a b : Bool) → eqb s 0x10 ≡ a → eqb s 0x11 ≡ b → status_told (kind_of s) ≡ status_answers s
    by true b e f = subst (λ n. status_told (kind_of n) ≡ status_answers n) (sym (eqb→eq s 0x10 (is_true e))) refl
    by false true e f = subst (λ n. status_told (kind_of n) ≡ status_answers n) (sym (eqb→eq s 0x11 (is_true f))) refl
    by false false e f = subst (λ a. Told a (eqb s 0x11) others) (sym e) (subst (λ b. Told false b others) (sym f) (last others))

kind_less : (a b c : Bool) → kind_by a b c < 4
kind_less true b c = omega arith
kind_less false true c = omega arith
kind_less false false true = omega arith
kind_less false false false = omega arith

module _ (rows : List Row) (leaves : List ℕ) where
  -- the outcome that has the list's own answers
  pub answered : map (answers rows leaves) tests ≡ map (passes (outcome_of (index_of (answers rows leaves)))) tests
  unfolding answers index_of kind_of
  answered =
      let s : ℕ = leaf_at rows leaves 0 6 in
      let a : Bool = member (leaf_at rows leaves 24 1) (1 ∷ []) in
      let b : Bool = member (leaf_at rows leaves 10 1) (1 ∷ []) in
      let c : Bool = member (leaf_at rows leaves 7 1) (1 ∷ []) in
      ap (λ (l : List Bool). a ∷ b ∷ c ∷ l) (sym (status-told s))
      ∙ sym (outcome-told a b c (kind_of s) (kind_less (member s (0x10 ∷ [])) (member s (0x11 ∷ [])) (member s externals)))

  -- its index, by the numbers that the tests ask of
  pub index-told : index_of (answers rows leaves) ≡ index_at (leaf_at rows leaves 24 1) (leaf_at rows leaves 10 1) (leaf_at rows leaves 7 1) (leaf_at rows leaves 0 6)
  unfolding answers index_of index_at kind_of
  index-told = refl

  -- the rows that the list picks are those of that outcome
  pub set_at : (t : Table) → T (knows_lines tests t.lines) → keep (answers rows leaves) t.lines ≡ rows_for t (outcome_of (index_of (answers rows leaves)))
  unfolding rows_for
  set_at t k =
      sym (keep-is (answers rows leaves) tests t.lines k)
      ∙ ap (λ (bs : List Bool). keep (given tests bs) t.lines) answered
      ∙ keep-is (passes (outcome_of (index_of (answers rows leaves)))) tests t.lines k

pub most : (b : Bool) (n : ℕ) → cond b n 0 ≤ n
most true n = omega arith
most false n = omega arith

pub index_less : (f : Test → Bool) → index_of f < sets
unfolding index_of
index_less f =
    omega
    (arith, most (f (bit 24)) 16, most (f (bit 10)) 8, most (f (bit 7)) 4, kind_less (f (is_status 0x10)) (f (is_status 0x11)) (f is_external))

-- What the code asks.

pub status_less : (k : ℕ) → status_at k < 0x20
status_less zero = omega arith
status_less (suc zero) = omega arith
status_less (suc (suc zero)) = omega arith
status_less (suc (suc (suc zero))) = omega arith
status_less (suc (suc (suc (suc k)))) = omega arith

pub kind-small : (s : ℕ) → kind_of s < 4
unfolding kind_of
kind-small s = kind_less (member s (0x10 ∷ [])) (member s (0x11 ∷ [])) (member s externals)

-- a status that is none of the eight from 0x10 on is of no kind
pub no_kind : (s : ℕ) → ((n : ℕ) → 0x10 ≤ n → n < 0x18 → s ≡ n → ⊥) → 0 ≡ kind_of s
unfolding kind_of
no_kind s ne =
    simp (
      ne_eqb s 0x10 (ne 0x10 (omega arith) (omega arith)),
      ne_eqb s 0x11 (ne 0x11 (omega arith) (omega arith)),
      ne_eqb s 0x12 (ne 0x12 (omega arith) (omega arith)),
      ne_eqb s 0x13 (ne 0x13 (omega arith) (omega arith)),
      ne_eqb s 0x14 (ne 0x14 (omega arith) (omega arith)),
      ne_eqb s 0x15 (ne 0x15 (omega arith) (omega arith)),
      ne_eqb s 0x16 (ne 0x16 (omega arith) (omega arith)),
      ne_eqb s 0x17 (ne 0x17 (omega arith) (omega arith)),
    )
