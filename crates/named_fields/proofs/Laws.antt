-- What the conditions of each table name, by one computed test of all tables; and rows compared, the top ones by the rule of ISS's own text.
use Prim.Native.Nat.{ℕ}
use mathlib.Core.Bool.{Bool, true, false, cond, ◌&&◌, ◌||◌}
use mathlib.Core.List.{List, [], ◌∷◌, ◌++◌, map}
use mathlib.Core.Path.{◌≡◌, refl, sym, ap, ap₂, subst, ◌∙◌}
use lib.Dec.{T, eqb, ltb}
use lib.ListN.{length, get_or, get_or-eq_default}
use borrow.Author.Tests.{eq-eqb, ne_eqb, eqb-true, eqb-false, ltb-true, ltb-false}
use Rattle.promise.proofs.Tests.{every, every-at}
use Rattle.promise.specs.Member.{member}
use Rattle.esr.specs.Decode.{class_of, iss_of}
use Rattle.layouts.specs.Layouts.{layout_for, layout_number, table_of, tables_of}
use Rattle.layouts.specs.declared.Layout.{Layout}
use Rattle.leaf_values.proofs.Laws.{other-rule as leaves-other-rule}
use Rattle.leaf_values.specs.Leaves.{leaves_of, same_row, same_rows}
use Rattle.records.specs.declared.Row.{Row}
use Rattle.tables.specs.Shape.{Table, Test}
use Rattle.tables.specs.Tables.{class as class_row, iss_under, top_rows, layouts, res0, wf, mcr, mcrr, ldc, sve, ld64b, bti, pauth, hvc, brk, fp, breakpoint, software_step, watchpoint, instruction_abort, data_abort, serror, msr}
use Rattle.turning.specs.Turning.{Field, bits_of, asked_by, same, on_list, named_in, tests_of}
use Rattle.named_fields.specs.Fields.{field_at, is_field, is_named, rows_of, have_same_rows}

-- a field on a list, by any test of it
abbrev any_by : (Field → Bool) → List Field → Bool
any_by p [] = false
any_by p (g ∷ gs) = cond (p g) true (any_by p gs)

on_is : (f : Field) (gs : List Field) → on_list f gs ≡ any_by (same f) gs
on_is f [] = refl
on_is f (g ∷ gs) = ap (λ (b : Bool). cond (same f g) true b) (on_is f gs)

-- The layouts that have conditions, by number, and what these name.

module _ (p : Field → Bool) (other : p (field_at 26 6) ≡ false) where
  step-names : p (field_at 24 1) ≡ any_by p (named_in (table_of 13))
  unfolding table_of layouts software_step
  step-names = by (p (field_at 24 1)) refl
    where
      by : (a : Bool) → p (field_at 24 1) ≡ a → p (field_at 24 1) ≡ any_by p (named_in software_step)
      by true e = rw (other, e)
      by false e = rw (other, e)

  instruction_names : p (field_at 0 6) ≡ any_by p (named_in (table_of 15))
  unfolding table_of layouts instruction_abort
  instruction_names = by (p (field_at 0 6)) refl
    where
      by : (a : Bool) → p (field_at 0 6) ≡ a → p (field_at 0 6) ≡ any_by p (named_in instruction_abort)
      by true e = rw (other, e)
      by false e = rw (other, e)

  data_names : (p (field_at 24 1) || p (field_at 0 6)) || p (field_at 10 1) ≡ any_by p (named_in (table_of 16))
  unfolding table_of layouts data_abort
  data_names = by (p (field_at 24 1)) refl (p (field_at 0 6)) refl (p (field_at 10 1)) refl
    where
      by : (a : Bool) → p (field_at 24 1) ≡ a → (b : Bool) → p (field_at 0 6) ≡ b → (d : Bool) → p (field_at 10 1) ≡ d
          → (p (field_at 24 1) || p (field_at 0 6)) || p (field_at 10 1) ≡ any_by p (named_in data_abort)
      by true e b f d g = rw (other, e)
      by false e true f d g = rw (other, e, f)
      by false e false f true g = rw (other, e, f, g)
      by false e false f false g = rw (other, e, f, g)

  serror-names : (p (field_at 24 1) || p (field_at 0 6)) || p (field_at 7 1) ≡ any_by p (named_in (table_of 17))
  unfolding table_of layouts serror
  serror-names = by (p (field_at 24 1)) refl (p (field_at 0 6)) refl (p (field_at 7 1)) refl
    where
      by : (a : Bool) → p (field_at 24 1) ≡ a → (b : Bool) → p (field_at 0 6) ≡ b → (d : Bool) → p (field_at 7 1) ≡ d
          → (p (field_at 24 1) || p (field_at 0 6)) || p (field_at 7 1) ≡ any_by p (named_in serror)
      by true e b f d g = rw (other, e)
      by false e true f d g = rw (other, e, f)
      by false e false f true g = rw (other, e, f, g)
      by false e false f false g = rw (other, e, f, g)

-- Every other layout has none: a test of all tables, which antt computes.

abbrev conditional : List ℕ
conditional = 13 ∷ 15 ∷ 16 ∷ 17 ∷ []

abbrev no_tests : List Test → Bool
no_tests [] = true
no_tests (t ∷ ts) = false

abbrev plain_table : ℕ → Table → Bool
plain_table n t = cond (member n conditional) true (no_tests (tests_of t.lines))

all_plain : T (every plain_table 0 (tables_of layouts))
unfolding layouts res0 wf mcr mcrr ldc sve ld64b bti pauth hvc brk fp breakpoint software_step watchpoint instruction_abort data_abort serror msr
all_plain = tt

msr-plain : T (no_tests (tests_of msr.lines))
unfolding msr
msr-plain = tt

plain_at : (n : ℕ) → member n conditional ≡ false → T (no_tests (tests_of (table_of n).lines))
unfolding table_of
plain_at n h = by (ltb n (length (tables_of layouts))) refl
  where
    by : (b : Bool) → ltb n (length (tables_of layouts)) ≡ b → T (no_tests (tests_of (get_or (tables_of layouts) n msr).lines))
    by true e = subst (λ (b : Bool). T (cond b true (no_tests (tests_of (get_or (tables_of layouts) n msr).lines)))) h (every-at plain_table (tables_of layouts) msr all_plain n (ltb-true n (length (tables_of layouts)) e))
    by false e = subst (λ (t : Table). T (no_tests (tests_of t.lines))) (sym (get_or-eq_default (tables_of layouts) msr (ltb-false n (length (tables_of layouts)) e))) msr-plain

no_tests_lem : (ts : List Test) → T (no_tests ts) → ts ≡ []
no_tests_lem [] t = refl
no_tests_lem (x ∷ xs) t = absurd t

-- What is named, by the number of the layout.

module _ (class start width n : ℕ) (is : n ≡ layout_number class) where
  pub named-class : true ≡ is_field start width 26 6 → true ≡ is_named class start width
  unfolding is_named is_field
  named-class e = rw (← e)

  module _ (other : false ≡ is_field start width 26 6) where
    not_class : same (field_at start width) (field_at 26 6) ≡ false
    unfolding is_field
    not_class = sym other

    by_number : (k : ℕ) → n ≡ k → any_by (same (field_at start width)) (named_in (table_of k)) ≡ is_named class start width
    unfolding is_named
    by_number k e = ap (λ (j : ℕ). any_by (same (field_at start width)) (named_in (table_of j))) (sym e ∙ is) ∙ sym (on_is (field_at start width) (named_in (table_of (layout_number class))))

    pub named_step : n ≡ 13 → {a : Bool} → a ≡ is_field start width 24 1 → a ≡ is_named class start width
    unfolding is_field
    named_step e x = x ∙ step-names (same (field_at start width)) not_class ∙ by_number 13 e

    pub named_instruction : n ≡ 15 → {a : Bool} → a ≡ is_field start width 0 6 → a ≡ is_named class start width
    unfolding is_field
    named_instruction e x = x ∙ instruction_names (same (field_at start width)) not_class ∙ by_number 15 e

    module _ {a b d : Bool} (x : a ≡ is_field start width 24 1) (y : b ≡ is_field start width 0 6) where
      pub named_data : n ≡ 16 → d ≡ is_field start width 10 1 → (a || b) || d ≡ is_named class start width
      unfolding is_field
      named_data e z = rw (x, y, z) (data_names (same (field_at start width)) not_class) ∙ by_number 16 e

      pub named-serror : n ≡ 17 → d ≡ is_field start width 7 1 → (a || b) || d ≡ is_named class start width
      unfolding is_field
      named-serror e z = rw (x, y, z) (serror-names (same (field_at start width)) not_class) ∙ by_number 17 e

    pub named_none : (n ≡ 13 → ⊥) → (n ≡ 15 → ⊥) → (n ≡ 16 → ⊥) → (n ≡ 17 → ⊥) → false ≡ is_named class start width
    named_none h13 h15 h16 h17 =
        sym (ap (λ (ts : List Test). any_by (same (field_at start width)) (bits_of class_row ∷ map asked_by ts)) (no_tests_lem (tests_of (table_of n).lines) (plain_at n (rw (ne_eqb n 13 h13, ne_eqb n 15 h15, ne_eqb n 16 h16, ne_eqb n 17 h17))))
        ∙ rw not_class)
        ∙ by_number n refl

  -- the class itself, or what is asked where it is not the class
  pub named-either : (own : Bool) {asked : Bool} → own ≡ is_field start width 26 6
      → (false ≡ is_field start width 26 6 → asked ≡ is_named class start width)
      → own || asked ≡ is_named class start width
  named-either true e f = named-class e
  named-either false e f = f e

-- Rows compared.

row-itself : (r : Row) → same_row r r ≡ true
unfolding same_row
row-itself r =
    rw (eq-eqb r.start r.start refl, eq-eqb r.width r.width refl, eq-eqb r.name r.name refl, eq-eqb r.long r.long refl, eq-eqb r.rule r.rule refl, eq-eqb r.kind r.kind refl)

one-row : (a b : Row) (xs ys : List Row) → same_rows (a ∷ xs) (b ∷ ys) ≡ same_row a b && same_rows xs ys
unfolding same_rows
one-row a b xs ys = refl

past : (r : Row) (xs ys : List Row) → same_rows (r ∷ xs) (r ∷ ys) ≡ same_rows xs ys
past r xs ys = one-row r r xs ys ∙ ap (λ (b : Bool). b && same_rows xs ys) (row-itself r)

iss-rows : (r s : ℕ) → same_row (iss_under r) (iss_under s) ≡ eqb r s
iss-rows r s = by (eqb r s) refl
  where
    by : (b : Bool) → eqb r s ≡ b → same_row (iss_under r) (iss_under s) ≡ eqb r s
    by true e = ap (λ (k : ℕ). same_row (iss_under r) (iss_under k)) (sym (eqb-true r s e)) ∙ row-itself (iss_under r) ∙ sym e
    by false e = sym (leaves-other-rule (iss_under r) (iss_under s) refl refl refl refl (eqb-false r s e)) ∙ sym e

top-rows : (r s : ℕ) (xs ys : List Row) → same_rows (top_rows r ++ xs) (top_rows s ++ ys) ≡ eqb r s && same_rows xs ys
unfolding top_rows
top-rows r s xs ys = past _ _ _ ∙ past _ _ _ ∙ past _ _ _ ∙ past _ _ _ ∙ last
  where
    last : same_rows (iss_under r ∷ xs) (iss_under s ∷ ys) ≡ eqb r s && same_rows xs ys
    last = one-row (iss_under r) (iss_under s) xs ys ∙ ap (λ (b : Bool). b && same_rows xs ys) (iss-rows r s)

module _ (v w : ℕ) where
  abbrev first : ℕ
  first = layout_number (class_of v)

  abbrev second : ℕ
  second = layout_number (class_of w)

  module _ {l k : Layout} (is : l ≡ layout_for (table_of first) (iss_of v)) (too : k ≡ layout_for (table_of second) (iss_of w)) where
    rules : have_same_rows v w ≡ eqb l.rule k.rule && same_rows (leaves_of first (iss_of v)) (leaves_of second (iss_of w))
    unfolding have_same_rows rows_of layout_for
    rules =
        top-rows (table_of first).iss_rule (table_of second).iss_rule (leaves_of first (iss_of v)) (leaves_of second (iss_of w))
        ∙ ap₂ (λ (x y : Layout). eqb x.rule y.rule && same_rows (leaves_of first (iss_of v)) (leaves_of second (iss_of w))) (sym is) (sym too)

    pub other-rule : (l.rule ≡ k.rule → ⊥) → false ≡ have_same_rows v w
    other-rule h = sym (rules ∙ rw (ne_eqb l.rule k.rule h))

    pub by-sets : l.rule ≡ k.rule → {b : Bool} → b ≡ same_rows (leaves_of first (iss_of v)) (leaves_of second (iss_of w)) → b ≡ have_same_rows v w
    by-sets h e = e ∙ sym (rules ∙ rw (eq-eqb l.rule k.rule h))
