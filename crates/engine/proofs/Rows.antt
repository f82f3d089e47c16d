-- A walk of the packed table is a walk of 01's tables, by one argument for all layouts: each line is packed right (one computed test), the lines of a class
-- stand where its place says, and a condition's mask asks what the condition asks.
use mathlib.Core.Path.{◌≡◌, refl, sym, ap, ap₂, ◌∙◌, subst}
use mathlib.Core.Bool.{Bool, true, false, cond, not, ◌&&◌}
use mathlib.Core.List.{List, [], ◌∷◌, ◌++◌, map, map-append, append_assoc, Memᴰ}
use Prim.Native.Nat.{ℕ, suc, ◌+◌, ◌≤◌}
use native.Mathlib.Nat.{zero-add}
use native.Mathlib.Omega.{arith}
use lib.Dec.{T, eqb, ltb, eqb→eq}
use lib.ListN.{length, get_or, length-append, length-map}
use lib.Seq.{get_or_at}
use borrow.Author.Tests.{ltb-true, ltb-false}
use Rattle.promise.specs.Member.{member}
use Rattle.promise.proofs.Tests.{both_left, both_right, every, every_mem, from, from_at}
use Rattle.texts.specs.Names.{names}
use Rattle.texts.specs.Pool.{code, index_in}
use Rattle.records.specs.Bits.{field_of}
use Rattle.records.specs.Kinds.{kind_of}
use Rattle.records.specs.declared.Row.{Row}
use Rattle.tables.specs.Shape.{Test, Line, Table, tests}
use Rattle.tables.specs.Applying.{passes, met, keep, rows_for}
use Rattle.tables.specs.Tables.{Served, layouts, res0, wf, mcr, mcrr, ldc, sve, ld64b, bti, pauth, hvc, brk, fp, breakpoint, software_step, watchpoint, instruction_abort, data_abort, serror, msr}
use Rattle.tables.proofs.Laws.{given, knows_lines, keep-is}
use Rattle.tables.proofs.Sound.{at_all, all-at, sound-table, sound}
use Rattle.engine_table.specs.Packed.{mask_of, answers_of, packed, lines_of, row_words, row_word, Place, nowhere, placed, place_in, place_of, place_word}
use Rattle.engine_table.proofs.Laws.{past-place}
use Rattle.engine.specs.Engine.{row_in, applies, rows_from, first_in, count_in, rule_in, checks_in, rows_of}

-- Each line is packed right: its row comes back, and under every outcome of the tests it applies where its conditions are met.

abbrev same_row : Row → Row → Bool
same_row q r =
    eqb q.start r.start
    && (eqb q.width r.width
    && (eqb q.name r.name
    && (eqb q.long r.long
    && (eqb q.rule r.rule
    && eqb q.kind r.kind))))

abbrev same_bool : Bool → Bool → Bool
same_bool true b = b
same_bool false b = not b

abbrev asks_as : ℕ → Line → List Bool → Bool
asks_as w l bs = same_bool (applies (mask_of bs) w) (met (given tests bs) l.conditions)

abbrev right_by : ℕ → Line → Bool
right_by w l = same_row (row_in w) l.row && at_all 6 (asks_as w l)

abbrev pub right_line : Line → Bool
right_line l = right_by (packed l) l

abbrev pub right : List Line → Bool
right [] = true
right (l ∷ ls) = right_line l && right ls

abbrev right_table : ℕ → Served → Bool
right_table i s = right s.table.lines && knows_lines tests s.table.lines

-- the computed test
all_right : T (every right_table 0 layouts)
unfolding layouts res0 wf mcr mcrr ldc sve ld64b bti pauth hvc brk fp breakpoint software_step watchpoint instruction_abort data_abort serror msr names code index_in packed row_in applies field_of
all_right = tt

same_bool_lem : (a b : Bool) → T (same_bool a b) → a ≡ b
same_bool_lem true true t = refl
same_bool_lem true false t = absurd t
same_bool_lem false true t = absurd t
same_bool_lem false false t = refl

abbrev row_of : ℕ → ℕ → ℕ → ℕ → ℕ → ℕ → Row
row_of a b c d e f = record { start = a; width = b; name = c; long = d; rule = e; kind = f }

same_row_lem : (q r : Row) → T (same_row q r) → q ≡ r
same_row_lem q r t =
    let t₁ : _ = both_right (eqb q.start r.start) _ t in
    let t₂ : _ = both_right (eqb q.width r.width) _ t₁ in
    let t₃ : _ = both_right (eqb q.name r.name) _ t₂ in
    let t₄ : _ = both_right (eqb q.long r.long) _ t₃ in
    let a : q.start ≡ r.start = eqb→eq q.start r.start (both_left (eqb q.start r.start) _ t) in
    let b : q.width ≡ r.width = eqb→eq q.width r.width (both_left (eqb q.width r.width) _ t₁) in
    let c : q.name ≡ r.name = eqb→eq q.name r.name (both_left (eqb q.name r.name) _ t₂) in
    let d : q.long ≡ r.long = eqb→eq q.long r.long (both_left (eqb q.long r.long) _ t₃) in
    let e : q.rule ≡ r.rule = eqb→eq q.rule r.rule (both_left (eqb q.rule r.rule) _ t₄) in
    let f : q.kind ≡ r.kind = eqb→eq q.kind r.kind (both_right (eqb q.rule r.rule) _ t₄) in
    let joined : row_of q.start q.width q.name q.long q.rule q.kind ≡ row_of r.start r.width r.name r.long r.rule r.kind = cc in
    joined

-- the tests by a value's own answers
abbrev pub own : ℕ → Test → Bool
own v = given tests (map (passes v) tests)

module _ (l : Line) (ok : T (right_line l)) where
  pub row_back : row_in (packed l) ≡ l.row
  row_back = same_row_lem (row_in (packed l)) l.row (both_left (same_row (row_in (packed l)) l.row) _ ok)

  pub applies_as : (v : ℕ) → applies (answers_of v) (packed l) ≡ met (own v) l.conditions
  unfolding answers_of
  applies_as v =
      same_bool_lem (applies (answers_of v) (packed l)) (met (own v) l.conditions)
      (all-at (asks_as (packed l) l) (map (passes v) tests) (both_right (same_row (row_in (packed l)) l.row) _ ok))

-- Lines stand in the table, packed, from an index on.
abbrev pub Stands : ℕ → List Line → Type 0
Stands n [] = Unit {0}
Stands n (l ∷ ls) = (row_word n ≡ packed l) × Stands (suc n) ls

kept : (b c : Bool) (q r : Row) (xs ys : List Row) → b ≡ c → q ≡ r → xs ≡ ys → cond b (q ∷ xs) xs ≡ cond c (r ∷ ys) ys
kept b c q r xs ys e f g = cc

-- the rows that apply are those that the table keeps
pub rows-kept : (v n : ℕ) (ls : List Line) → Stands n ls → T (right ls) → rows_from (answers_of v) n (length ls) ≡ keep (own v) ls
unfolding rows_from
rows-kept v n [] s ok = refl
rows-kept v n (l ∷ ls) s ok =
    let one : T (right_line l) = both_left (right_line l) _ ok in
    kept (applies (answers_of v) (row_word n)) (met (own v) l.conditions) (row_in (row_word n)) l.row (rows_from (answers_of v) (suc n) (length ls)) (keep (own v) ls)
    (ap (applies (answers_of v)) s.0 ∙ applies_as l one v) (ap row_in s.0 ∙ row_back l one)
    (rows-kept v (suc n) ls s.1 (both_right (right_line l) _ ok))

-- Where the lines of a class stand.

-- the first table that serves a class, if there is one
abbrev pub table_for : List Served → ℕ → List Table
table_for [] c = []
table_for (s ∷ ss) c = cond (member c s.classes) (s.table ∷ []) (table_for ss c)

-- a table that is found at an index: its lines stand there, packed right, and it is one of the layouts
pub record Found (k : ℕ) (s : Served) : Type 0 where
  pub stands : Stands k s.table.lines
  pub among : Memᴰ s layouts
  pub packs : T (right s.table.lines)
  pub knows : T (knows_lines tests s.table.lines)

pub data Looked (c n : ℕ) (ss : List Served) : Type 0 where
  missing : place_in n ss c ≡ nowhere → table_for ss c ≡ [] → Looked c n ss
  found : (k : ℕ) (s : Served) → place_in n ss c ≡ placed k s.table → table_for ss c ≡ s.table ∷ [] → Found k s → Looked c n ss

stands_at : (pre : List ℕ) (ls : List Line) (rest : List ℕ) (n : ℕ) → row_words ≡ pre ++ (map packed ls ++ rest) → length pre ≡ n → Stands n ls
unfolding row_word
stands_at pre [] rest n is e = tt
stands_at pre (l ∷ ls) rest n is e = (
  ap (λ (ws : List ℕ). get_or ws n 0) is ∙ get_or_at pre (packed l) (map packed ls ++ rest) 0 n e,
  stands_at (pre ++ (packed l ∷ [])) ls rest (suc n) (is ∙ sym (append_assoc pre (packed l ∷ []) (map packed ls ++ rest)))
      (omega (arith, length-append pre (packed l ∷ []))),
)

found_at : (k : ℕ) (s : Served) → Memᴰ s layouts → Stands k s.table.lines → Found k s
found_at k s m stands =
    let t : T (right s.table.lines && knows_lines tests s.table.lines) = (every_mem right_table s 0 layouts all_right m).1 in
    record { stands = stands; among = m; packs = both_left (right s.table.lines) _ t; knows = both_right (right s.table.lines) _ t }

looked_in : (c n : ℕ) (ss : List Served) (pre : List ℕ) → ((s : Served) → Memᴰ s ss → Memᴰ s layouts)
    → row_words ≡ pre ++ map packed (lines_of ss) → length pre ≡ n → Looked c n ss
looked_in c n [] pre sub is e = missing refl refl
looked_in c n (s ∷ ss) pre sub is e =
    let here : map packed (lines_of (s ∷ ss)) ≡ map packed s.table.lines ++ map packed (lines_of ss) = map-append packed s.table.lines (lines_of ss) in
    let split : row_words ≡ pre ++ (map packed s.table.lines ++ map packed (lines_of ss)) = is ∙ ap (λ (ws : List ℕ). pre ++ ws) here in
    by (member c s.classes) refl
    (found_at n s (sub s (Memᴰ.head refl)) (stands_at pre s.table.lines (map packed (lines_of ss)) n split e))
    (looked_in c (n + length s.table.lines) ss (pre ++ map packed s.table.lines) (λ x m. sub x (Memᴰ.tail m))
    (split ∙ sym (append_assoc pre (map packed s.table.lines) (map packed (lines_of ss))))
    (omega (arith, length-append pre (map packed s.table.lines), length-map s.table.lines packed)))
  where
    place : (b : Bool) → member c s.classes ≡ b
        → place_in n (s ∷ ss) c ≡ cond b (placed n s.table) (place_in (n + length s.table.lines) ss c)
    place b q = ap (λ (x : Bool). cond x (placed n s.table) (place_in (n + length s.table.lines) ss c)) q

    table : (b : Bool) → member c s.classes ≡ b → table_for (s ∷ ss) c ≡ cond b (s.table ∷ []) (table_for ss c)
    table b q = ap (λ (x : Bool). cond x (s.table ∷ []) (table_for ss c)) q

    by : (b : Bool) → member c s.classes ≡ b → Found n s → Looked c (n + length s.table.lines) ss → Looked c n (s ∷ ss)
    by true q f rest = found n s (place true q) (table true q) f
    by false q f (missing p t) = missing (place false q ∙ p) (table false q ∙ t)
    by false q f (found k x p t g) = found k x (place false q ∙ p) (table false q ∙ t) g

pub looked : (c : ℕ) → Looked c 0 layouts
unfolding row_words
looked c = looked_in c 0 layouts [] (λ s m. m) refl refl

-- the rows of a class are those of the table that serves it
module _ (k : ℕ) (s : Served) (f : Found k s) (v : ℕ) where
  pub rows-found : rows_from (answers_of v) k (length s.table.lines) ≡ rows_for s.table v
  unfolding rows_for
  rows-found = rows-kept v k s.table.lines f.stands f.packs ∙ keep-is (passes v) tests s.table.lines f.knows

  pub few-found : length (rows_from (answers_of v) k (length s.table.lines)) ≤ 14
  few-found = let e : _ = ap length rows-found in omega (arith, (sound s.table (sound-table f.among) v).few)

-- A place comes back from its number.

abbrev pub are_bytes : List ℕ → Bool
are_bytes [] = true
are_bytes (b ∷ bs) = ltb b 256 && are_bytes bs

abbrev place_right : ℕ → Place → Bool
place_right w p =
    eqb (first_in w) p.first
    && (eqb (count_in w) p.count
    && (eqb (rule_in w) p.rule
    && (eqb (checks_in w) (length p.checks)
    && are_bytes p.checks)))

abbrev right_place : ℕ → Bool
right_place c = place_right (place_word c) (place_of c)

places-right : T (from right_place 0 64)
unfolding layouts res0 wf mcr mcrr ldc sve ld64b bti pauth hvc brk fp breakpoint software_step watchpoint instruction_abort data_abort serror msr kind_of place_word place_of field_of
places-right = tt

past-right : (c : ℕ) → 64 ≤ c → T (right_place c)
unfolding place_word field_of
past-right c h = rw (past-place c h) tt

place-right : (c : ℕ) → T (right_place c)
place-right c = by (ltb c 64) refl
  where
    by : (b : Bool) → ltb c 64 ≡ b → T (right_place c)
    by true e = subst (λ (n : ℕ). T (right_place n)) (zero-add c) (from_at right_place 0 64 c places-right (ltb-true c 64 e))
    by false e = past-right c (ltb-false c 64 e)

pub record Placed (w : ℕ) (p : Place) : Type 0 where
  pub first : first_in w ≡ p.first
  pub count : count_in w ≡ p.count
  pub rule : rule_in w ≡ p.rule
  pub checks : checks_in w ≡ length p.checks
  pub bytes : T (are_bytes p.checks)

pub place-back : (c : ℕ) → Placed (place_word c) (place_of c)
place-back c =
    let w : ℕ = place_word c in
    let p : Place = place_of c in
    let t₀ : T (right_place c) = place-right c in
    let t₁ : _ = both_right (eqb (first_in w) p.first) _ t₀ in
    let t₂ : _ = both_right (eqb (count_in w) p.count) _ t₁ in
    let t₃ : _ = both_right (eqb (rule_in w) p.rule) _ t₂ in
    record {
      first = eqb→eq (first_in w) p.first (both_left (eqb (first_in w) p.first) _ t₀);
      count = eqb→eq (count_in w) p.count (both_left (eqb (count_in w) p.count) _ t₁);
      rule = eqb→eq (rule_in w) p.rule (both_left (eqb (rule_in w) p.rule) _ t₂);
      checks = eqb→eq (checks_in w) (length p.checks) (both_left (eqb (checks_in w) (length p.checks)) _ t₃);
      bytes = both_right (eqb (checks_in w) (length p.checks)) _ t₃;
    }

-- the rows of a class by its place
pub rows_at : (c v : ℕ) (p : Place) → place_of c ≡ p → rows_of c v ≡ rows_from (answers_of v) p.first p.count
unfolding rows_of
rows_at c v p e =
    let b : Placed (place_word c) (place_of c) = place-back c in
    ap₂ (rows_from (answers_of v)) (b.first ∙ ap (λ (q : Place). q.first) e) (b.count ∙ ap (λ (q : Place). q.count) e)

pub few-rows : (c v : ℕ) → length (rows_of c v) ≤ 14
unfolding place_of rows_from
few-rows c v = by (looked c)
  where
    by : Looked c 0 layouts → length (rows_of c v) ≤ 14
    by (missing p t) = let e : _ = ap length (rows_at c v nowhere p) in omega arith
    by (found k s p t f) = let e : _ = ap length (rows_at c v (placed k s.table) p) in omega (arith, few-found k s f v)
