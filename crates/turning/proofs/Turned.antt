-- #114 of readings: values that differ only inside a leaf that is not named have the same layout and the same rows, and every record is equal but the
-- excepted ones. What is asked of the value shares no bit with the leaf, so that it has the same answers; the leaves tile the value, so that no other
-- leaf shares a bit with it; and ISS alone covers it.
use mathlib.Core.Path.{◌≡◌, refl, sym, ap, ◌∙◌, subst}
use mathlib.Core.Bool.{Bool, false, ◌&&◌}
use mathlib.Core.List.Memᴰ
use mathlib.Core.List.{List, [], ◌∷◌, ◌++◌, map, Memᴰ}
use mathlib.Core.Logic.{◌⊎◌, inl, inr}
use Prim.Native.Nat.{ℕ, ◌+◌, ◌≤◌}
use native.Mathlib.Omega.{arith}
use lib.Dec.{T, eqb, leb, eqb→eq, leb→le}
use lib.ListN.{take}
use Rattle.promise.specs.Member.{member}
use Rattle.promise.proofs.Tests.{both_left, both_right, every, every_mem}
use Rattle.texts.specs.Rules.{plain, rules}
use Rattle.texts.specs.Pool.{on_list, rule_at, describes, text_code}
use Rattle.records.specs.Bits.{field_of}
use Rattle.records.specs.Kinds.{mark_of}
use Rattle.records.specs.Rows.{value_in, record_of, row_kind}
use Rattle.records.specs.Subjects.{text_of}
use Rattle.records.specs.declared.Record.{Record}
use Rattle.records.specs.declared.Row.{Row}
use Rattle.tables.specs.Shape.{Test, Line}
use Rattle.tables.specs.Applying.{passes, keep, rows_for}
use Rattle.tables.specs.Tables.{class, iss_under, top_rows, Served}
use Rattle.tables.proofs.Sound.{tiles, tiled}
use Rattle.reading.specs.Reading.{Applying, Classed, Reading}
use Rattle.reading.proofs.HasBits.{bits_is, bits-of, inner}
use Rattle.reading.proofs.Applies.{at_iss, fitted-lines, applying-is, applying-of}
use Rattle.reading.proofs.Served.{ClassOf, unserved, served_by, class-of}
use Rattle.reading.proofs.Outcome.{rows-sound, Rows, reading-rows}
use Rattle.turning.specs.Turning.{bits_of, asked_by, DifferInside, leaf_rows, Unnamed, SameRow, names_register, Stands, equal, field, iss, StandAll, none, more, OneTurned}
use Rattle.turning.proofs.Fields.{Apart, apart-same}
use Rattle.turning.proofs.Kept.{asked, keep_same}
use Rattle.turning.proofs.Named.{Elsewhere, some_row, some-row, leaf-elsewhere, iss-text}

-- Rows that leave no gap share no bit.

inside : (top : ℕ) (rows : List Row) → T (tiles top rows) → (r : Row) → Memᴰ r rows → r.start + r.width ≤ top
inside top [] t r m = elim m [ ]
inside top (x ∷ xs) t r (Memᴰ.head e) =
    let h : x.start + x.width ≡ top = eqb→eq (x.start + x.width) top (both_left (eqb (x.start + x.width) top) _ t) in
    subst (λ (y : Row). y.start + y.width ≤ top) (sym e) (omega arith)
inside top (x ∷ xs) t r (Memᴰ.tail m) =
    let h : x.start + x.width ≡ top = eqb→eq (x.start + x.width) top (both_left (eqb (x.start + x.width) top) _ t) in
    let u : T (leb 1 x.width && tiles x.start xs) = both_right (eqb (x.start + x.width) top) _ t in
    omega (arith, inside x.start xs (both_right (leb 1 x.width) _ u) r m)

tile-apart : (top : ℕ) (rows : List Row) → T (tiles top rows) → (r x : Row) → Memᴰ r rows → Memᴰ x rows → (x ≡ r) ⊎ Apart (bits_of r) (bits_of x)
tile-apart top [] t r x m n = elim m [ ]
tile-apart top (y ∷ ys) t r x (Memᴰ.head e) (Memᴰ.head f) = inl (f ∙ sym e)
tile-apart top (y ∷ ys) t r x (Memᴰ.head e) (Memᴰ.tail n) =
    let u : T (leb 1 y.width && tiles y.start ys) = both_right (eqb (y.start + y.width) top) _ t in
    inr (inr (subst (λ (z : Row). x.start + x.width ≤ z.start) (sym e) (inside y.start ys (both_right (leb 1 y.width) _ u) x n)))
tile-apart top (y ∷ ys) t r x (Memᴰ.tail m) (Memᴰ.head f) =
    let u : T (leb 1 y.width && tiles y.start ys) = both_right (eqb (y.start + y.width) top) _ t in
    inr (inl (subst (λ (z : Row). r.start + r.width ≤ z.start) (sym f) (inside y.start ys (both_right (leb 1 y.width) _ u) r m)))
tile-apart top (y ∷ ys) t r x (Memᴰ.tail m) (Memᴰ.tail n) =
    let u : T (leb 1 y.width && tiles y.start ys) = both_right (eqb (y.start + y.width) top) _ t in
    tile-apart y.start ys (both_right (leb 1 y.width) _ u) r x m n

-- The leaves, and ISS.

leaf-tiles : (rule : ℕ) (rows : List Row) → T (some_row rows) → T (tiled rows) → T (tiles 64 (leaf_rows rule rows))
unfolding top_rows
leaf-tiles rule [] s t = absurd s
leaf-tiles rule (r ∷ rs) s t = t

iss-tiles : (rows : List Row) → T (some_row rows) → T (tiled rows) → T (tiles 25 rows)
iss-tiles [] s t = absurd s
iss-tiles (r ∷ rs) s t = t

abbrev is_above : ℕ → Row → Bool
is_above i r = leb 25 r.start

above-iss : (rule : ℕ) → T (every is_above 0 (take 4 (top_rows rule)))
unfolding top_rows
above-iss rule = tt

top_or_iss : (rule : ℕ) → top_rows rule ≡ take 4 (top_rows rule) ++ (iss_under rule ∷ [])
unfolding top_rows
top_or_iss rule = refl

-- Records of one row.

module _ (v w : ℕ) where
  same_row_lem : (x : Row) → SameRow (record_of v x) (record_of w x)
  unfolding record_of
  same_row_lem x = record { start = refl; width = refl; name = refl; long = refl; mark = refl }

  same_record : (x : Row) → value_in v x ≡ value_in w x → record_of v x ≡ record_of w x
  unfolding record_of
  same_record x e =
      ap (λ (n : ℕ). record { value = n; name = x.name; text = text_of x.rule n; long = x.long; start = x.start; width = x.width; mark = mark_of (row_kind x) }) e

  no_text : (x : Row) → x.rule ≡ plain.number → (record_of v x).text ≡ (record_of w x).text
  unfolding record_of text_code describes rule_at rules on_list
  no_text x e = ap (λ (n : ℕ). text_of n (value_in v x)) e ∙ sym (ap (λ (n : ℕ). text_of n (value_in w x)) e)

  stand-each : (turned : Row) (rows : List Row) → ((x : Row) → Memᴰ x rows → Stands turned x (record_of v x) (record_of w x))
      → StandAll turned rows (map (record_of v) rows) (map (record_of w) rows)
  stand-each turned [] h = none
  stand-each turned (x ∷ xs) h = more (h x (Memᴰ.head refl)) (stand-each turned xs (λ y m. h y (Memᴰ.tail m)))

-- a value has one layout
one-layout : (v : ℕ) (a b : Served) → Classed v a → Classed v b → a ≡ b
one-layout v a b j k = by (class-of v)
  where
    by : ClassOf v → a ≡ b
    by (unserved h n q) = absurd (h a j)
    by (served_by s c u n q) = u a j ∙ sym (u b k)

-- the rows that apply to a value are those that its layout keeps
pub rows_are : (v : ℕ) (s : Served) (rows : List Row) → Classed v s → Applying v s.table.lines rows → rows ≡ keep (at_iss v) s.table.lines
rows_are v s rows k a = applying-is v 0 s.table.lines rows (fitted-lines {s = s} k.layout) a

-- the records of a reading, by its layout
reading-list : (v : ℕ) (l : List Record) → Reading v l → (s : Served) → Classed v s → l ≡ map (record_of v) (top_rows s.table.iss_rule ++ keep (at_iss v) s.table.lines)
unfolding rows_for
reading-list v l a s k =
    let r : Rows v l = reading-rows v l a in
    r.list ∙ ap (λ (z : Served). map (record_of v) (top_rows z.table.iss_rule ++ keep (at_iss v) z.table.lines)) (one-layout v r.layout s r.classed k)

-- ISS always has fields of its own: no reading's leaf is ISS itself.
pub divided : {v : ℕ} {l : List Record} (a : Reading v l) → a.rows ≡ [] → ⊥
divided {v} a e =
    subst (λ (rows : List Row). T (some_row rows)) (sym (rows_are v a.served a.rows a.classed a.applying) ∙ e)
    (some-row a.served a.classed.layout (at_iss v))

-- One field turned.

module _ {v w : ℕ} {row : Row} (u : Unnamed v row) (d : DifferInside (bits_of row) v w) where
  abbrev s : Served
  s = u.served

  abbrev ls : List Line
  ls = s.table.lines

  -- the rows of the first value
  abbrev kept : List Row
  kept = keep (at_iss v) ls

  is_leaf : Memᴰ row (leaf_rows s.table.iss_rule kept)
  is_leaf = subst (λ (rs : List Row). Memᴰ row (leaf_rows s.table.iss_rule rs)) (rows_are v s u.rows u.classed u.applying) u.leaf

  apart : Elsewhere row (asked (at_iss v) ls)
  apart = leaf-elsewhere s u.classed.layout (at_iss v) s.table.iss_rule row is_leaf u.unnamed

  -- the same layout
  classed : Classed w s
  classed =
      record {
        class = field_of w 26 6;
        has = bits-of w 26 6;
        serves = subst (λ (n : ℕ). Memᴰ n s.classes) (bits_is u.classed.has ∙ apart-same d (bits_of class) apart.class) u.classed.serves;
        layout = u.classed.layout;
      }

  -- the same answers, and the same rows
  answers : (t : Test) → Memᴰ t (asked (at_iss v) ls) → at_iss v t ≡ at_iss w t
  unfolding passes
  answers t m =
      let q : (t.start + t.width ≤ 25) × Apart (bits_of row) (asked_by t) = apart.tests t m in
      ap (λ (n : ℕ). member n t.among)
      (inner 25 v t.start t.width q.0 ∙ apart-same d (asked_by t) q.1 ∙ sym (inner 25 w t.start t.width q.0))

  same_kept : kept ≡ keep (at_iss w) ls
  same_kept = keep_same (at_iss v) (at_iss w) ls answers

  after : Applying w ls kept
  after = subst (Applying w ls) (sym same_kept) (applying-of w 0 ls (fitted-lines {s = s} u.classed.layout))

  -- how each record stands
  some : T (some_row kept)
  some = some-row s u.classed.layout (at_iss v)

  gapless : T (tiled kept)
  unfolding rows_for
  gapless = (rows-sound v s u.classed).tile

  leaf-stands : (x : Row) → Memᴰ x (leaf_rows s.table.iss_rule kept) → Stands row x (record_of v x) (record_of w x)
  leaf-stands x m = by (tile-apart 64 (leaf_rows s.table.iss_rule kept) (leaf-tiles s.table.iss_rule kept some gapless) row x is_leaf m)
    where
      by : (x ≡ row) ⊎ Apart (bits_of row) (bits_of x) → Stands row x (record_of v x) (record_of w x)
      by (inl e) = field e (same_row_lem v w x)
      by (inr a) = equal (same_record v w x (apart-same d (bits_of x) a))

  iss-stands : Stands row (iss_under s.table.iss_rule) (record_of v (iss_under s.table.iss_rule)) (record_of w (iss_under s.table.iss_rule))
  iss-stands = by (Memᴰ.append_cases (take 4 (top_rows rule)) is_leaf)
    where
      rule : ℕ
      rule = s.table.iss_rule

      text : (rule ≡ plain.number) ⊎ T (names_register rule) → names_register rule ≡ false → (record_of v (iss_under rule)).text ≡ (record_of w (iss_under rule)).text
      text (inl e) n = no_text v w (iss_under rule) e
      text (inr t) n = absurd (subst T n t)

      by : Memᴰ row (take 4 (top_rows rule)) ⊎ Memᴰ row kept → Stands row (iss_under rule) (record_of v (iss_under rule)) (record_of w (iss_under rule))
      by (inl m) =
          equal (same_record v w (iss_under rule)
          (apart-same d (bits_of (iss_under rule)) (inr (leb→le 25 row.start (every_mem is_above row 0 (take 4 (top_rows rule)) (above-iss rule) m).1))))
      by (inr m) =
          iss refl (inside 25 kept (iss-tiles kept some gapless) row m) (same_row_lem v w (iss_under rule)) (text (iss-text s u.classed.layout))

  row-stands : (x : Row) → Memᴰ x (top_rows s.table.iss_rule ++ kept) → Stands row x (record_of v x) (record_of w x)
  row-stands x m = by (Memᴰ.append_cases (top_rows rule) m)
    where
      rule : ℕ
      rule = s.table.iss_rule

      top : Memᴰ x (take 4 (top_rows rule)) ⊎ Memᴰ x (iss_under rule ∷ []) → Stands row x (record_of v x) (record_of w x)
      top (inl n) = leaf-stands x (Memᴰ.append_left kept n)
      top (inr n) = subst (λ (y : Row). Stands row y (record_of v y) (record_of w y)) (sym (Memᴰ.eq_of_singleton n)) iss-stands

      by : Memᴰ x (top_rows rule) ⊎ Memᴰ x kept → Stands row x (record_of v x) (record_of w x)
      by (inl n) = top (Memᴰ.append_cases (take 4 (top_rows rule)) (subst (Memᴰ x) (top_or_iss rule) n))
      by (inr n) = leaf-stands x (Memᴰ.append_right (take 4 (top_rows rule)) n)

  -- The readings of both values.
  module _ {l k : List Record} (a : Reading v l) (b : Reading w k) where
    pub same_layout : a.served ≡ b.served
    same_layout = one-layout v a.served s a.classed u.classed ∙ one-layout w s b.served classed b.classed

    -- "both readings have the same rows"
    pub same_rows : a.rows ≡ b.rows
    same_rows =
        rows_are v a.served a.rows a.classed a.applying
        ∙ ap (λ (z : Served). keep (at_iss v) z.table.lines) (one-layout v a.served s a.classed u.classed)
        ∙ same_kept
        ∙ ap (λ (z : Served). keep (at_iss w) z.table.lines) (one-layout w s b.served classed b.classed)
        ∙ sym (rows_are w b.served b.rows b.classed b.applying)

    -- "and every record is equal except that field's and, if it lies in ISS, the ISS record's value and its text from #108"
    pub others-stand : OneTurned row v w l k
    others-stand =
        record {
          served = s;
          first = u.classed;
          second = classed;
          rows = kept;
          before = applying-of v 0 ls (fitted-lines {s = s} u.classed.layout);
          after = after;
          stand = subst (λ (xs : List Record). StandAll row (top_rows s.table.iss_rule ++ kept) xs k) (sym (reading-list v l a s u.classed))
              (subst (λ (ys : List Record). StandAll row (top_rows s.table.iss_rule ++ kept) (map (record_of v) (top_rows s.table.iss_rule ++ kept)) ys)
              (sym (reading-list w k b s classed ∙ ap (λ (rs : List Row). map (record_of w) (top_rows s.table.iss_rule ++ rs)) (sym same_kept)))
              (stand-each v w row (top_rows s.table.iss_rule ++ kept) row-stands));
        }
