-- Every table is sound under every outcome of its conditions: one test, which antt computes.
use mathlib.Core.Path.{◌≡◌, refl, sym, subst}
use mathlib.Core.Bool.{Bool, true, false, cond, not, ◌&&◌, ◌||◌}
use mathlib.Core.List.{List, [], ◌∷◌, map, Memᴰ}
use Prim.Native.Nat.{ℕ, zero, suc, ◌+◌, ◌^◌, ◌≤◌}
use lib.Dec.{T, eqb, leb, ltb, leb→le}
use lib.ListN.{length, length-map}
use Rattle.promise.specs.Member.{member}
use Rattle.promise.proofs.Tests.{both_left, both_right, from, every, every_mem}
use Rattle.texts.specs.Names.{names}
use Rattle.texts.specs.Rules.{rules, class_name}
use Rattle.texts.specs.Pool.{code, index_in, describes, on_list, rule_at}
use Rattle.refusals.specs.Refusals.{reason_number}
use Rattle.refusals.specs.declared.Reason.TheVariants.{InvalidEc}
use Rattle.records.specs.Kinds.{Kind, Free, Coded, Checked, Unchecked, kind_of}
use Rattle.records.specs.Rows.{row_kind}
use Rattle.records.specs.declared.Row.{Row}
use Rattle.tables.specs.Shape.{Test, Condition, Line, Table, tests}
use Rattle.tables.specs.Applying.{passes, keep, rows_for, is_check, in_order}
use Rattle.tables.specs.Tables.{top_rows, Served, layouts, res0, wf, mcr, mcrr, ldc, sve, ld64b, bti, pauth, hvc, brk, fp, breakpoint, software_step, watchpoint, instruction_abort, data_abort, serror, msr}
use Rattle.tables.proofs.Laws.{same, given, knows_lines, keep-is}

-- "Each layout is at most 14 rows"
abbrev pub most_rows : ℕ
most_rows = 14

-- rows that leave no gap from top down to 0; or there are none, and ISS is undivided
abbrev pub tiles : ℕ → List Row → Bool
tiles top [] = eqb top 0
tiles top (r ∷ rs) = eqb (r.start + r.width) top && (leb 1 r.width && tiles r.start rs)

abbrev pub tiled : List Row → Bool
tiled [] = true
tiled (r ∷ rs) = tiles 25 (r ∷ rs)

-- the start of each row that asks something is in the order of the checks
abbrev pub covers : List ℕ → ℕ → Row → Bool
covers order i r = not (is_check (row_kind r)) || member r.start order

-- A row's own columns. Its name and long name are of their list, so that none is misspelt. A coded row refuses by a number of 01's, and each
-- value that its rule lists is one that it can hold. A free row's rule says something of each value that it can hold, or of none: so a
-- rule of one bit has a row of one bit, which is what the Rust asserts in as_bit. A checked row has no text but that of 0.
abbrev describes_all : ℕ → ℕ → Bool
describes_all rule n = eqb (rule_at rule).codes n && from (describes rule) 0 n

abbrev fits : Kind → ℕ → ℕ → Bool
fits Free rule width = eqb rule 0 || describes_all rule (2 ^ width)
fits (Coded reason) rule width = member (reason_number reason) (3 ∷ 4 ∷ 5 ∷ 6 ∷ 7 ∷ []) && leb (rule_at rule).codes (2 ^ width)
fits Checked rule width = eqb rule 0 || describes_all rule 1
fits Unchecked rule width = eqb rule 0

abbrev sound_row : ℕ → Row → Bool
sound_row i r = leb 1 r.name && (ltb r.name (length names) && (ltb r.long (length names) && fits (row_kind r) r.rule r.width))

-- the rows that apply under some outcome of the conditions, under the order of the checks
abbrev pub sound_rows : List Row → List ℕ → Bool
sound_rows rows order =
    tiled rows
    && (leb (length rows) most_rows
    && (leb (length (in_order rows order)) most_rows
    && (every (covers order) 0 rows
    && every sound_row 0 rows)))

-- a test passes at every list of n truth values
abbrev pub at_all : ℕ → (List Bool → Bool) → Bool
at_all zero P = P []
at_all (suc n) P = at_all n (λ (bs : List Bool). P (true ∷ bs)) && at_all n (λ (bs : List Bool). P (false ∷ bs))

-- those of some tests that the lines name
abbrev among : List Condition → Test → Bool
among [] t = false
among (c ∷ cs) t = same t c.test || among cs t

abbrev named_in : List Line → Test → Bool
named_in [] t = false
named_in (l ∷ ls) t = among l.conditions t || named_in ls t

abbrev pub named : List Line → List Test → List Test
named ls [] = []
named ls (t ∷ ts) = cond (named_in ls t) (t ∷ named ls ts) (named ls ts)

-- a test of rows passes of the kept rows under every outcome of these tests; the lines name no other
abbrev always_by : List Test → (List Row → Bool) → List Line → Bool
always_by ts P ls = knows_lines ts ls && at_all (length ts) (λ (bs : List Bool). P (keep (given ts bs) ls))

abbrev pub always : (List Row → Bool) → Table → Bool
always P t = always_by (named t.lines tests) P t.lines

abbrev pub sound_table : Table → Bool
sound_table t = always (λ (rows : List Row). sound_rows rows t.order) t

-- the classes that are served are those that have a text, each served once
abbrev pub served : List Served → ℕ → ℕ
served [] c = 0
served (s ∷ ss) c = cond (member c s.classes) (suc (served ss c)) (served ss c)

abbrev pub class_sound : ℕ → Bool
class_sound c = cond (describes class_name.number c) (eqb (served layouts c) 1) (eqb (served layouts c) 0)

abbrev sound_served : ℕ → Served → Bool
sound_served i s = sound_table s.table

-- "37..64 is checked .. ISS2 and the ISS record itself are free" (#109); EC is coded, and IL free
pub top-kinds : (rule : ℕ) → map row_kind (top_rows rule) ≡ Checked ∷ Free ∷ Coded InvalidEc ∷ Free ∷ Free ∷ []
unfolding top_rows kind_of
top-kinds rule = refl

-- the computed test
all_sound : T (every sound_served 0 layouts && from class_sound 0 64)
unfolding layouts res0 wf mcr mcrr ldc sve ld64b bti pauth hvc brk fp breakpoint software_step watchpoint instruction_abort data_abort serror msr names rules code index_in describes on_list rule_at kind_of
all_sound = tt

pub sound-table : {s : Served} → Memᴰ s layouts → T (sound_table s.table)
sound-table {s} m = (every_mem sound_served s 0 layouts (both_left (every sound_served 0 layouts) (from class_sound 0 64) all_sound) m).1

-- a class has a text exactly where a layout serves it, and then one layout does
pub class-sound : T (from class_sound 0 64)
class-sound = both_right (every sound_served 0 layouts) (from class_sound 0 64) all_sound

-- What the test shows of the rows and checks of any value.

pub all-at : (P : List Bool → Bool) (bs : List Bool) → T (at_all (length bs) P) → T (P bs)
all-at P [] t = t
all-at P (true ∷ bs) t =
    all-at (λ (cs : List Bool). P (true ∷ cs)) bs
    (both_left (at_all (length bs) (λ (cs : List Bool). P (true ∷ cs))) (at_all (length bs) (λ (cs : List Bool). P (false ∷ cs))) t)
all-at P (false ∷ bs) t =
    all-at (λ (cs : List Bool). P (false ∷ cs)) bs
    (both_right (at_all (length bs) (λ (cs : List Bool). P (true ∷ cs))) (at_all (length bs) (λ (cs : List Bool). P (false ∷ cs))) t)

-- what a test shows of the kept rows under every outcome it shows of the rows of any value
pub always-at : (P : List Row → Bool) (t : Table) → T (always P t) → (v : ℕ) → T (P (rows_for t v))
unfolding rows_for
always-at P t k v =
    let ts : List Test = named t.lines tests in
    let under : List Bool → Bool = λ (bs : List Bool). P (keep (given ts bs) t.lines) in
    subst (λ (rs : List Row). T (P rs)) (keep-is (passes v) ts t.lines (both_left (knows_lines ts t.lines) _ k))
    (all-at under (map (passes v) ts)
    (subst (λ (n : ℕ). T (at_all n under)) (sym (length-map ts (passes v))) (both_right (knows_lines ts t.lines) _ k)))

pub record Sound (rows : List Row) (order : List ℕ) : Type 0 where
  pub tile : T (tiled rows)
  pub few : length rows ≤ most_rows
  pub few_checks : length (in_order rows order) ≤ most_rows
  pub cover : T (every (covers order) 0 rows)

pub sound : (t : Table) → T (sound_table t) → (v : ℕ) → Sound (rows_for t v) t.order
sound t k v =
    let rows : List Row = rows_for t v in
    let s₀ : T (sound_rows rows t.order) = always-at (λ (rs : List Row). sound_rows rs t.order) t k v in
    let s₁ : _ = both_right (tiled rows) _ s₀ in
    let s₂ : _ = both_right (leb (length rows) most_rows) _ s₁ in
    let s₃ : _ = both_right (leb (length (in_order rows t.order)) most_rows) _ s₂ in
    record {
      tile = both_left (tiled rows) _ s₀;
      few = leb→le (length rows) most_rows (both_left (leb (length rows) most_rows) _ s₁);
      few_checks = leb→le (length (in_order rows t.order)) most_rows (both_left (leb (length (in_order rows t.order)) most_rows) _ s₂);
      cover = both_left (every (covers t.order) 0 rows) _ s₃;
    }
