-- The named fields are those of 02's list, class by class; and a leaf that is not named shares no bit with the class or with what is asked of the value.
-- Each is one test of all tables, under every outcome of their conditions, which antt computes.
use mathlib.Core.Path.{◌≡◌, refl, sym, ap₂, subst}
use mathlib.Core.Bool.{Bool, true, false, cond, ◌&&◌}
use mathlib.Core.List.{List, [], ◌∷◌, map, Memᴰ}
use mathlib.Core.Logic.{◌⊎◌, inl, inr}
use Prim.Native.Nat.{ℕ, ◌+◌, ◌≤◌}
use lib.Dec.{T, eqb, leb, eqb→eq, eqb_refl, leb→le}
use lib.ListN.{length, length-map}
use Rattle.promise.proofs.Tests.{both_left, both_right, both_intro, or_left, or_right, every, every_mem}
use Rattle.texts.specs.Rules.{plain}
use Rattle.records.specs.declared.Row.{Row}
use Rattle.tables.specs.Shape.{Test, Table, tests}
use Rattle.tables.specs.Applying.{keep}
use Rattle.tables.specs.Tables.{class, top_rows, Served, layouts, res0, wf, mcr, mcrr, ldc, sve, ld64b, bti, pauth, hvc, brk, fp, breakpoint, software_step, watchpoint, instruction_abort, data_abort, serror, msr}
use Rattle.tables.proofs.Laws.{given, knows_lines, keep-is}
use Rattle.tables.proofs.Sound.{at_all, all-at, named}
use Rattle.turning.specs.Turning.{Field, bits_of, asked_by, same, on_list, once, leaf_rows, named_in, names_register}
use Rattle.turning.proofs.Fields.{Apart}
use Rattle.turning.proofs.Kept.{asked, asked_is}

-- two fields share no bit
abbrev are_apart : Field → Field → Bool
are_apart f g = cond (leb (f.start + f.width) g.start) true (leb (g.start + g.width) f.start)

-- what is asked lies in ISS, and shares no bit with a field
abbrev asks_elsewhere : Field → ℕ → Test → Bool
asks_elsewhere f i t = leb (t.start + t.width) 25 && are_apart f (asked_by t)

abbrev stands_free : Table → List Test → ℕ → Row → Bool
stands_free t us i r = cond (on_list (bits_of r) (named_in t)) true (are_apart (bits_of r) (bits_of class) && every (asks_elsewhere (bits_of r)) 0 us)

abbrev pub some_row : List Row → Bool
some_row [] = false
some_row (r ∷ rs) = true

abbrev free_at : Table → List Row → List Test → Bool
free_at t rows us = some_row rows && every (stands_free t us) 0 (leaf_rows 0 rows)

abbrev free_under : Table → (Test → Bool) → Bool
free_under t f = free_at t (keep f t.lines) (asked f t.lines)

-- ISS has no text, or that of #108
abbrev iss_text : Table → Bool
iss_text t = cond (eqb t.iss_rule plain.number) true (names_register t.iss_rule)

abbrev free_by : List Test → Table → Bool
free_by ts t = iss_text t && (knows_lines ts t.lines && at_all (length ts) (λ (bs : List Bool). free_under t (given ts bs)))

abbrev free_table : ℕ → Served → Bool
free_table i s = free_by (named s.table.lines tests) s.table

-- the computed test
all-free : T (every free_table 0 layouts)
unfolding layouts top_rows res0 wf mcr mcrr ldc sve ld64b bti pauth hvc brk fp breakpoint software_step watchpoint instruction_abort data_abort serror msr
all-free = tt

-- What the test shows of a value's rows and of what is asked of it.

pub either : (a b : Bool) → T (cond a true b) → T a ⊎ T b
either true b t = inl t
either false b t = inr t

pub same-field : (f g : Field) → T (same f g) → f ≡ g
same-field f g t =
    ap₂ (λ (s w : ℕ). record { start = s; width = w }) (eqb→eq f.start g.start (both_left (eqb f.start g.start) _ t))
    (eqb→eq f.width g.width (both_right (eqb f.start g.start) _ t))

pub on_list_lem : (f : Field) (gs : List Field) → T (on_list f gs) → Memᴰ f gs
on_list_lem f [] t = absurd t
on_list_lem f (g ∷ gs) t = by (either (same f g) (on_list f gs) t) (on_list_lem f gs)
  where
    by : T (same f g) ⊎ T (on_list f gs) → (T (on_list f gs) → Memᴰ f gs) → Memᴰ f (g ∷ gs)
    by (inl e) rest = Memᴰ.head (same-field f g e)
    by (inr m) rest = Memᴰ.tail (rest m)

pub mem_on : (f : Field) (gs : List Field) → Memᴰ f gs → T (on_list f gs)
mem_on f [] m = elim m [ ]
mem_on f (g ∷ gs) (Memᴰ.head e) = or_left (same f g) (on_list f gs) (subst (λ (h : Field). T (same f h)) e (both_intro (eqb f.start f.start) _ (eqb_refl f.start) (eqb_refl f.width)))
mem_on f (g ∷ gs) (Memᴰ.tail m) = or_right (same f g) (on_list f gs) (mem_on f gs m)

apart_by : (f g : Field) → T (are_apart f g) → Apart f g
apart_by f g t = by (either (leb (f.start + f.width) g.start) _ t)
  where
    by : T (leb (f.start + f.width) g.start) ⊎ T (leb (g.start + g.width) f.start) → Apart f g
    by (inl h) = inl (leb→le _ _ h)
    by (inr h) = inr (leb→le _ _ h)

-- a row shares no bit with the class or with these tests, which lie in ISS
pub record Elsewhere (row : Row) (us : List Test) : Type 0 where
  pub class : Apart (bits_of row) (bits_of class)
  pub tests : (t : Test) → Memᴰ t us → (t.start + t.width ≤ 25) × Apart (bits_of row) (asked_by t)

elsewhere : (t : Table) (us : List Test) (i : ℕ) (row : Row) → T (stands_free t us i row) → (Memᴰ (bits_of row) (named_in t) → ⊥) → Elsewhere row us
elsewhere t us i row k n = by (either (on_list (bits_of row) (named_in t)) _ k)
  where
    by : T (on_list (bits_of row) (named_in t)) ⊎ T (are_apart (bits_of row) (bits_of class) && every (asks_elsewhere (bits_of row)) 0 us) → Elsewhere row us
    by (inl m) = absurd (n (on_list_lem (bits_of row) (named_in t) m))
    by (inr h) =
        record {
          class = apart_by (bits_of row) (bits_of class) (both_left (are_apart (bits_of row) (bits_of class)) _ h);
          tests = λ u m.
              let q : T (asks_elsewhere (bits_of row) 0 u) = (every_mem (asks_elsewhere (bits_of row)) u 0 us (both_right (are_apart (bits_of row) (bits_of class)) _ h) m).1 in
              (leb→le _ 25 (both_left (leb (u.start + u.width) 25) _ q), apart_by (bits_of row) (asked_by u) (both_right (leb (u.start + u.width) 25) _ q));
        }

free-under : (ts : List Test) (t : Table) → T (free_by ts t) → (f : Test → Bool) → T (free_under t f)
free-under ts t k f =
    let rest : T (knows_lines ts t.lines && at_all (length ts) (λ (bs : List Bool). free_under t (given ts bs))) = both_right (iss_text t) _ k in
    let knows : T (knows_lines ts t.lines) = both_left (knows_lines ts t.lines) _ rest in
    let under : List Bool → Bool = λ (bs : List Bool). free_under t (given ts bs) in
    subst T (ap₂ (free_at t) (keep-is f ts t.lines knows) (asked_is f ts t.lines knows))
    (all-at under (map f ts) (subst (λ (n : ℕ). T (at_all n under)) (sym (length-map ts f)) (both_right (knows_lines ts t.lines) _ rest)))

module _ (s : Served) (m : Memᴰ s layouts) where
  here : T (free_by (named s.table.lines tests) s.table)
  here = (every_mem free_table s 0 layouts all-free m).1

  under : (f : Test → Bool) → T (free_under s.table f)
  under f = free-under (named s.table.lines tests) s.table here f

  -- ISS has rows of its own
  pub some-row : (f : Test → Bool) → T (some_row (keep f s.table.lines))
  some-row f = both_left (some_row (keep f s.table.lines)) _ (under f)

  pub leaf-elsewhere : (f : Test → Bool) (rule : ℕ) (row : Row) → Memᴰ row (leaf_rows rule (keep f s.table.lines))
      → (Memᴰ (bits_of row) (named_in s.table) → ⊥) → Elsewhere row (asked f s.table.lines)
  unfolding top_rows
  leaf-elsewhere f rule row l n =
      let e : _ =
      every_mem (stands_free s.table (asked f s.table.lines)) row 0 (leaf_rows 0 (keep f s.table.lines))
      (both_right (some_row (keep f s.table.lines)) _ (under f)) l in
      elsewhere s.table (asked f s.table.lines) e.0 row e.1 n

  pub iss-text : (s.table.iss_rule ≡ plain.number) ⊎ T (names_register s.table.iss_rule)
  iss-text = by (either (eqb s.table.iss_rule plain.number) _ (both_left (iss_text s.table) _ here))
    where
      by : T (eqb s.table.iss_rule plain.number) ⊎ T (names_register s.table.iss_rule) → (s.table.iss_rule ≡ plain.number) ⊎ T (names_register s.table.iss_rule)
      by (inl t) = inl (eqb→eq _ _ t)
      by (inr t) = inr t

-- 02: "Named are the class, bit 24 in data aborts, software step and SError, the status, FnV (for the text of FnP) and WnRV."
infix 75 ◌at◌
abbrev ◌at◌ : ℕ → ℕ → Field
w at s = record { start = s; width = w }

abbrev the_class : Field
the_class = 6 at 26

abbrev status : Field
status = 6 at 0

abbrev bit24 : Field
bit24 = 1 at 24

abbrev FnV : Field
FnV = 1 at 10

abbrev WnRV : Field
WnRV = 1 at 7

pub named_fields : map {B = List ℕ × List Field} (λ (s : Served). (s.classes, once (named_in s.table))) layouts ≡
    (0x00 ∷ 0x0E ∷ 0x19 ∷ 0x22 ∷ 0x26 ∷ [], the_class ∷ []) ∷
    (0x01 ∷ [], the_class ∷ []) ∷
    (0x03 ∷ 0x05 ∷ [], the_class ∷ []) ∷
    (0x04 ∷ 0x0C ∷ [], the_class ∷ []) ∷
    (0x06 ∷ [], the_class ∷ []) ∷
    (0x07 ∷ [], the_class ∷ []) ∷
    (0x0A ∷ [], the_class ∷ []) ∷
    (0x0D ∷ [], the_class ∷ []) ∷
    (0x1C ∷ [], the_class ∷ []) ∷
    (0x11 ∷ 0x15 ∷ 0x16 ∷ 0x17 ∷ [], the_class ∷ []) ∷
    (0x38 ∷ 0x3C ∷ [], the_class ∷ []) ∷
    (0x28 ∷ 0x2C ∷ [], the_class ∷ []) ∷
    (0x30 ∷ 0x31 ∷ [], the_class ∷ []) ∷
    (0x32 ∷ 0x33 ∷ [], the_class ∷ bit24 ∷ []) ∷
    (0x34 ∷ 0x35 ∷ [], the_class ∷ []) ∷
    (0x20 ∷ 0x21 ∷ [], the_class ∷ status ∷ []) ∷
    (0x24 ∷ 0x25 ∷ [], the_class ∷ bit24 ∷ status ∷ FnV ∷ []) ∷
    (0x2F ∷ [], the_class ∷ bit24 ∷ status ∷ WnRV ∷ []) ∷
    (0x18 ∷ [], the_class ∷ []) ∷
    []
unfolding layouts res0 wf mcr mcrr ldc sve ld64b bti pauth hvc brk fp breakpoint software_step watchpoint instruction_abort data_abort serror msr
named_fields = refl
