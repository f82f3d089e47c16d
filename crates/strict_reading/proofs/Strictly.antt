-- What strict says of a row and of the rows of a reading: they are all as it asks, or its answer is the first that is not. By the lines of the list, and then by the rows.
use mathlib.Core.Bool.{Bool, true, false, cond, not, ◌&&◌, and-false}
use mathlib.Core.List.Memᴰ
use mathlib.Core.List.{List, [], ◌∷◌, ◌++◌, map, Memᴰ}
use mathlib.Core.Logic.{◌⊎◌, inl, inr}
use mathlib.Core.Path.{◌≡◌, refl, sym, ap, ap₂, ◌∙◌, subst}
use Prim.Native.Nat.{ℕ, suc}
use lib.Dec.{T, T_not}
use Rattle.promise.specs.Member.{member}
use Rattle.promise.proofs.Tests.{both_left, both_right, every, every_mem, false_is, is_true, member_of, of-member, true_is}
use Rattle.refusals.specs.Refusals.{no_refusal, passed, reason_number, refusal_number}
use Rattle.refusals.specs.Values.{value_numbers}
use Rattle.refusals.specs.declared.Refusal.{Refusal}
use Rattle.records.specs.Rows.{record_of, value_in}
use Rattle.records.specs.declared.Row.{Row}
use Rattle.reading.proofs.HasBits.{bits_is, bits-of}
use Rattle.reading.proofs.Judge.{Each, each-cons}
use Rattle.strict_reading.specs.StrictReading.{Allows, Excused, Fails, First, here, later, Strictly}
use Rattle.strict.specs.Strict.{fails_by, first_refusal, record_refusal, refusal_in}
use Rattle.strict.specs.Stricter.{Stricter, refusal_by, stricter}
use Rattle.strict.proofs.Lines.{Known, columns, free_row, is_free, line-refuses, one_line, own-columns, told-number}

-- each line refuses by a number that a value can be refused by
abbrev is_listed : ℕ → Stricter → Bool
is_listed i d = member (reason_number d.reason) value_numbers

all_listed : T (every is_listed 0 stricter)
unfolding stricter value_numbers
all_listed = tt

module _ (nested : Bool) (v : ℕ) where
  -- A line, asked of its own row.
  abbrev excuses : Stricter → Bool
  excuses d = nested && d.excused

  abbrev holds : Stricter → Bool
  holds d = member (value_in v d.row) d.allowed

  abbrev unmet : Stricter → Bool
  unmet d = not (excuses d) && not (holds d)

  excused-test : (d : Stricter) → Excused nested d → excuses d ≡ true
  excused-test d (n, e) = ap₂ (λ (a b : Bool). a && b) n e

  test-excused : (d : Stricter) → excuses d ≡ true → Excused nested d
  test-excused d e = (true_is nested (both_left nested d.excused (is_true e)), true_is d.excused (both_right nested d.excused (is_true e)))

  allows-test : (d : Stricter) → Allows v d → holds d ≡ true
  allows-test d a = true_is (holds d) (subst (λ (x : ℕ). T (member x d.allowed)) (bits_is a.has) (member_of a.value d.allowed a.among))

  test-allows : (d : Stricter) → holds d ≡ true → Allows v d
  test-allows d e =
      record { value = value_in v d.row; has = bits-of v d.row.start d.row.width; among = of-member (value_in v d.row) d.allowed (is_true e) }

  met-test : (d : Stricter) → Excused nested d ⊎ Allows v d → unmet d ≡ false
  met-test d (inl x) = ap (λ (b : Bool). not b && not (holds d)) (excused-test d x)
  met-test d (inr a) = ap (λ (b : Bool). not (excuses d) && not b) (allows-test d a) ∙ and-false (not (excuses d))

  test-met : (d : Stricter) → unmet d ≡ false → Excused nested d ⊎ Allows v d
  test-met d e = by (excuses d) refl (holds d) refl e
    where
      by : (a : Bool) → excuses d ≡ a → (b : Bool) → holds d ≡ b → (not a && not b) ≡ false → Excused nested d ⊎ Allows v d
      by true p b q h = inl (test-excused d p)
      by false p true q h = inr (test-allows d q)
      by false p false q h = absurd (subst T h tt)

  -- A line, asked of a row.
  module _ (row : Row) where
    fails-is : (d : Stricter) → fails_by nested (record_of v row) d ≡ (columns d.row row && (not (excuses d) && not (member (value_in v row) d.allowed)))
    unfolding record_of
    fails-is d = refl

    value-is : value_in v row ≡ (record_of v row).value
    unfolding record_of
    value-is = refl

    own-fails : (d : Stricter) → d.row ≡ row → fails_by nested (record_of v row) d ≡ unmet d
    own-fails d e =
        fails-is d
        ∙ subst (λ (r : Row). (columns d.row r && (not (excuses d) && not (member (value_in v r) d.allowed))) ≡ unmet d) e
        (ap (λ (b : Bool). b && unmet d) (own-columns d.row))

    -- the lines of a list: none fails, or the first that fails answers
    data Judged (ds : List Stricter) : Type 0 where
      passing : refusal_in ds nested (record_of v row) ≡ no_refusal → ((d : Stricter) → Memᴰ d ds → fails_by nested (record_of v row) d ≡ false) → Judged ds
      failing : (d : Stricter) → Memᴰ d ds → fails_by nested (record_of v row) d ≡ true → refusal_in ds nested (record_of v row) ≡ refusal_by d (value_in v row) → Judged ds

    judged : (ds : List Stricter) → Judged ds
    unfolding refusal_in
    judged [] = passing refl (λ d m. absurd (Memᴰ.not-nil m))
    judged (d ∷ ds) = by (fails_by nested (record_of v row) d) refl (judged ds)
      where
        answer : (b : Bool) → fails_by nested (record_of v row) d ≡ b → refusal_in (d ∷ ds) nested (record_of v row) ≡ cond b (refusal_by d (record_of v row).value) (refusal_in ds nested (record_of v row))
        answer b e = ap (λ (t : Bool). cond t (refusal_by d (record_of v row).value) (refusal_in ds nested (record_of v row))) e

        either : (x : Stricter) → fails_by nested (record_of v row) d ≡ false → ((y : Stricter) → Memᴰ y ds → fails_by nested (record_of v row) y ≡ false)
            → (x ≡ d) ⊎ Memᴰ x ds → fails_by nested (record_of v row) x ≡ false
        either x e all (inl same) = ap (fails_by nested (record_of v row)) same ∙ e
        either x e all (inr m) = all x m

        by : (b : Bool) → fails_by nested (record_of v row) d ≡ b → Judged ds → Judged (d ∷ ds)
        by true e rest = failing d (Memᴰ.head refl) e (answer true e ∙ ap (refusal_by d) (sym value-is))
        by false e (passing p all) = passing (answer false e ∙ p) (λ x m. either x e all (Memᴰ.cases_cons m))
        by false e (failing x m f p) = failing x (Memᴰ.tail m) f (answer false e ∙ p)

    -- a row that is as strict asks refuses nothing, and one that is not refuses as its line says
    module _ (known : Known row) where
      own_line : (d : Stricter) → Memᴰ d stricter → fails_by nested (record_of v row) d ≡ true → d.row ≡ row
      own_line d m e = known d m (true_is (columns d.row row) (both_left (columns d.row row) _ (is_true (sym (fails-is d) ∙ e))))

      pub strictly-passes : Strictly nested v row → record_refusal nested (record_of v row) ≡ no_refusal
      strictly-passes s = by (judged stricter)
        where
          by : Judged stricter → record_refusal nested (record_of v row) ≡ no_refusal
          by (passing p all) = p
          by (failing d m e p) =
              let own : d.row ≡ row = own_line d m e in
              absurd (subst T (sym e ∙ own-fails d own ∙ met-test d (s d m own)) tt)

      pub fails-refuses : (f : Refusal) → Fails nested v row f → record_refusal nested (record_of v row) ≡ f
      fails-refuses f k = by (judged stricter)
        where
          outside : holds k.line ≡ false
          outside =
              false_is (holds k.line)
              (λ t. k.outside
              (of-member k.value k.line.allowed
              (subst (λ (x : ℕ). T (member x k.line.allowed)) (ap (value_in v) k.same ∙ sym (bits_is k.has)) t)))

          fails : fails_by nested (record_of v row) k.line ≡ true
          fails =
              own-fails k.line k.same
              ∙ ap₂ (λ (a b : Bool). not a && not b) (false_is (excuses k.line) (λ t. k.unexcused (test-excused k.line (true_is (excuses k.line) t)))) outside

          by : Judged stricter → record_refusal nested (record_of v row) ≡ f
          by (passing p all) = absurd (subst T (sym fails ∙ all k.line k.listed) tt)
          by (failing d m e p) =
              p ∙ ap₂ refusal_by (one_line d k.line m k.listed (own_line d m e ∙ sym k.same)) (sym (bits_is k.has)) ∙ sym k.refusal

      -- a row is as strict asks, or refuses
      pub row-judged : Strictly nested v row ⊎ (Fails nested v row (record_refusal nested (record_of v row)) × (passed (record_refusal nested (record_of v row)) ≡ false))
      row-judged = by (judged stricter)
        where
          by : Judged stricter → Strictly nested v row ⊎ (Fails nested v row (record_refusal nested (record_of v row)) × (passed (record_refusal nested (record_of v row)) ≡ false))
          by (passing p all) = inl (λ d m e. test-met d (sym (own-fails d e) ∙ all d m))
          by (failing d m e p) =
              let own : d.row ≡ row = own_line d m e in
              let failed : T (unmet d) = is_true (sym (own-fails d own) ∙ e) in
              inr (
                record {
                  line = d;
                  listed = m;
                  same = own;
                  unexcused = λ x. T_not (excuses d) (both_left (not (excuses d)) _ failed) (is_true (excused-test d x));
                  value = value_in v row;
                  has = bits-of v row.start row.width;
                  outside = λ k. T_not (holds d) (both_right (not (excuses d)) _ failed)
                      (subst (λ (r : Row). T (member (value_in v r) d.allowed)) (sym own) (member_of (value_in v row) d.allowed k));
                  refusal = p;
                },
                ap passed p ∙ line-refuses d m (value_in v row),
              )

  -- Rows, from high bits to low.
  abbrev pub refusal_of_rows : List Row → Refusal
  refusal_of_rows rows = first_refusal nested (map (record_of v) rows)

  looked : (row : Row) (rows : List Row) (f : Refusal) → record_refusal nested (record_of v row) ≡ f → refusal_of_rows (row ∷ rows) ≡ cond (passed f) (refusal_of_rows rows) f
  unfolding first_refusal
  looked row rows f e = ap (λ (g : Refusal). cond (passed g) (refusal_of_rows rows) g) e

  pub strictly-first : (rows : List Row) → Each Known rows → Each (Strictly nested v) rows → refusal_of_rows rows ≡ no_refusal
  unfolding first_refusal
  strictly-first [] k s = refl
  strictly-first (r ∷ rs) k s =
      looked r rs no_refusal (strictly-passes r (k r (Memᴰ.head refl)) (s r (Memᴰ.head refl)))
      ∙ strictly-first rs (λ x m. k x (Memᴰ.tail m)) (λ x m. s x (Memᴰ.tail m))

  -- the first row that is not as strict asks is what it refuses
  fails-number : (row : Row) (f : Refusal) → Fails nested v row f → passed f ≡ false
  fails-number row f k = ap passed k.refusal ∙ line-refuses k.line k.listed k.value

  pub first-number : (f : Refusal) (rows : List Row) → First nested v f rows → passed f ≡ false
  first-number f rows (here {row} k) = fails-number row f k
  first-number f rows (later {rows = rest} s k) = first-number f rest k

  pub first-listed : (f : Refusal) (rows : List Row) → First nested v f rows → Memᴰ (refusal_number f) value_numbers
  first-listed f rows (here {row} k) =
      subst (λ (n : ℕ). Memᴰ n value_numbers) (sym (ap refusal_number k.refusal ∙ told-number k.line k.value))
      (of-member (reason_number k.line.reason) value_numbers (every_mem is_listed k.line 0 stricter all_listed k.listed).1)
  first-listed f rows (later {rows = rest} s k) = first-listed f rest k

  pub first-is : (f : Refusal) (rows : List Row) → Each Known rows → First nested v f rows → refusal_of_rows rows ≡ f
  first-is f [] k m = elim m [ ]
  first-is f (r ∷ rs) k (here u) =
      looked r rs f (fails-refuses r (k r (Memᴰ.head refl)) f u) ∙ ap (λ (b : Bool). cond b (refusal_of_rows rs) f) (fails-number r f u)
  first-is f (r ∷ rs) k (later s u) =
      looked r rs no_refusal (strictly-passes r (k r (Memᴰ.head refl)) s) ∙ first-is f rs (λ x m. k x (Memᴰ.tail m)) u

  -- all rows are as strict asks, or one is the first that is not
  pub rows-judged : (rows : List Row) → Each Known rows → Each (Strictly nested v) rows ⊎ First nested v (refusal_of_rows rows) rows
  rows-judged [] k = inl (λ r m. absurd (Memᴰ.not-nil m))
  rows-judged (r ∷ rs) k = by (row-judged r (k r (Memᴰ.head refl))) (rows-judged rs (λ x m. k x (Memᴰ.tail m)))
    where
      own : Known r
      own = k r (Memᴰ.head refl)

      by : Strictly nested v r ⊎ (Fails nested v r (record_refusal nested (record_of v r)) × (passed (record_refusal nested (record_of v r)) ≡ false))
          → Each (Strictly nested v) rs ⊎ First nested v (refusal_of_rows rs) rs → Each (Strictly nested v) (r ∷ rs) ⊎ First nested v (refusal_of_rows (r ∷ rs)) (r ∷ rs)
      by (inl s) (inl all) = inl (each-cons (Strictly nested v) r rs s all)
      by (inl s) (inr f) = inr (subst (λ (g : Refusal). First nested v g (r ∷ rs)) (sym (looked r rs no_refusal (strictly-passes r own s))) (later s f))
      by (inr (u, p)) rest =
          inr (subst (λ (g : Refusal). First nested v g (r ∷ rs))
          (sym (looked r rs _ refl ∙ ap (λ (b : Bool). cond b (refusal_of_rows rs) (record_refusal nested (record_of v r))) p)) (here u))

  -- Strict asks nothing of the top records.
  free-passes : (row : Row) (ds : List Stricter) (i : ℕ) → T (every (is_free row) i ds) → refusal_in ds nested (record_of v row) ≡ no_refusal
  unfolding refusal_in
  free-passes row [] i t = refl
  free-passes row (d ∷ ds) i t =
      ap (λ (b : Bool). cond b (refusal_by d (record_of v row).value) (refusal_in ds nested (record_of v row)))
      (fails-is row d ∙ ap (λ (b : Bool). b && (not (excuses d) && not (member (value_in v row) d.allowed))) (false_is (columns d.row row) (T_not (columns d.row row) (both_left (is_free row i d) _ t))))
      ∙ free-passes row ds (suc i) (both_right (is_free row i d) _ t)

  pub free-first : (top rows : List Row) (i : ℕ) → T (every free_row i top) → refusal_of_rows (top ++ rows) ≡ refusal_of_rows rows
  free-first [] rows i t = refl
  free-first (r ∷ rs) rows i t =
      looked r (rs ++ rows) no_refusal (free-passes r stricter 0 (both_left (free_row i r) _ t)) ∙ free-first rs rows (suc i) (both_right (free_row i r) _ t)
