-- Which rows of the tables the strict list asks of, by computed tests of all tables: each line's row is one of theirs; every row named WU, VNCR or AM, and every unchecked one, is a line's; and a
-- record is of a line's row by its bits, name and mark exactly if its row is that row.
use mathlib.Core.Bool.{Bool, true, false, cond, not, ◌&&◌, ◌||◌}
use mathlib.Core.List.Memᴰ
use mathlib.Core.List.{List, [], ◌∷◌, Memᴰ}
use mathlib.Core.Path.{◌≡◌, refl, sym, ap, subst, ◌∙◌}
use Prim.Native.Nat.{ℕ}
use lib.Dec.{T, T_not, eqb, eqb_refl, eqb→eq}
use Rattle.promise.proofs.Tests.{both_intro, both_left, both_right, every, every_mem, false_is, true_is}
use Rattle.texts.specs.Names.{names}
use Rattle.texts.specs.Pool.{code, index_in}
use Rattle.refusals.specs.Refusals.{passed, reason_number, refusal_number}
use Rattle.records.specs.Kinds.{Kind, Free, Unchecked, Checked, Coded, kind_of, mark_number, mark_of}
use Rattle.records.specs.Rows.{record_of, row_kind}
use Rattle.records.specs.declared.Row.{Row}
use Rattle.tables.specs.Shape.{Line}
use Rattle.tables.specs.Tables.{top_rows, Served, layouts, res0, wf, mcr, mcrr, ldc, sve, ld64b, bti, pauth, hvc, brk, fp, breakpoint, software_step, watchpoint, instruction_abort, data_abort, serror, msr}
use Rattle.strict.specs.Strict.{is_of}
use Rattle.strict.specs.Stricter.{Stricter, refusal_by, stricter, telling}
use Rattle.strict.specs.declared.Tells.{Tells}
use Rattle.strict.specs.declared.Tells.TheVariants.{Nothing, Number, Field}

abbrev same_row : Row → Row → Bool
same_row a b =
    eqb a.start b.start
    && (eqb a.width b.width
    && (eqb a.name b.name
    && (eqb a.long b.long
    && (eqb a.rule b.rule
    && eqb a.kind b.kind))))

-- some entry of a list passes a test
abbrev some : {A : Type 0} → (A → Bool) → List A → Bool
some f [] = false
some f (x ∷ xs) = f x || some f xs

-- "a row of it that no table has is found by a computed test"
abbrev is_there : ℕ → Stricter → Bool
is_there i d = some (λ (s : Served). some (λ (l : Line). same_row d.row l.row) s.table.lines) layouts

pub all_there : T (every is_there 0 stricter)
unfolding stricter layouts res0 wf mcr mcrr ldc sve ld64b bti pauth hvc brk fp breakpoint software_step watchpoint instruction_abort data_abort serror msr names code index_in
all_there = tt

-- "wherever WU is read", and the others alike
abbrev is_unchecked : Kind → Bool
is_unchecked Free = false
is_unchecked (Coded reason) = false
is_unchecked Checked = false
is_unchecked Unchecked = true

abbrev wanted : Row → Bool
wanted r = eqb r.name (code "WU") || (eqb r.name (code "VNCR") || (eqb r.name (code "AM") || is_unchecked (row_kind r)))

abbrev is_asked : ℕ → Line → Bool
is_asked i l = not (wanted l.row) || some (λ (d : Stricter). same_row d.row l.row) stricter

abbrev all_asked : ℕ → Served → Bool
all_asked i s = every is_asked 0 s.table.lines

pub all_asked_lem : T (every all_asked 0 layouts)
unfolding stricter layouts res0 wf mcr mcrr ldc sve ld64b bti pauth hvc brk fp breakpoint software_step watchpoint instruction_abort data_abort serror msr names code index_in kind_of
all_asked_lem = tt

-- the columns of a row that its record has
abbrev pub columns : Row → Row → Bool
columns a b =
    eqb b.start a.start
    && (eqb b.width a.width
    && (eqb b.name a.name
    && eqb (mark_number (mark_of (row_kind b))) (mark_number (mark_of (row_kind a)))))

pub by-columns : (v : ℕ) (a b : Row) → is_of a (record_of v b) ≡ columns a b
unfolding record_of
by-columns v a b = refl

-- a row that a line's columns fit is that line's row
abbrev pub is_known_by : Row → ℕ → Stricter → Bool
is_known_by r i d = not (columns d.row r) || same_row d.row r

abbrev pub is_known : ℕ → Line → Bool
is_known i l = every (is_known_by l.row) 0 stricter

abbrev pub all_known : ℕ → Served → Bool
all_known i s = every is_known 0 s.table.lines

pub all_known_lem : T (every all_known 0 layouts)
unfolding stricter layouts res0 wf mcr mcrr ldc sve ld64b bti pauth hvc brk fp breakpoint software_step watchpoint instruction_abort data_abort serror msr names code index_in kind_of
all_known_lem = tt

-- no line asks of a top record
abbrev pub is_free : Row → ℕ → Stricter → Bool
is_free r i d = not (columns d.row r)

abbrev pub free_row : ℕ → Row → Bool
free_row i r = every (is_free r) 0 stricter

pub top-free : (rule : ℕ) → T (every free_row 0 (top_rows rule))
unfolding stricter top_rows names code index_in kind_of
top-free rule = tt

-- What the tests show.

unfoldable made : ℕ → ℕ → ℕ → ℕ → ℕ → ℕ → Row
made s w n l r k = record { start = s; width = w; name = n; long = l; rule = r; kind = k }

eta : (r : Row) → r ≡ made r.start r.width r.name r.long r.rule r.kind
unfolding made
eta r = refl

row_is : (a b : Row) → T (same_row a b) → a ≡ b
row_is a b t =
    let t₁ = both_right (eqb a.start b.start) _ t in
    let t₂ = both_right (eqb a.width b.width) _ t₁ in
    let t₃ = both_right (eqb a.name b.name) _ t₂ in
    let t₄ = both_right (eqb a.long b.long) _ t₃ in
    let s : a.start ≡ b.start = eqb→eq a.start b.start (both_left (eqb a.start b.start) _ t) in
    let w : a.width ≡ b.width = eqb→eq a.width b.width (both_left (eqb a.width b.width) _ t₁) in
    let n : a.name ≡ b.name = eqb→eq a.name b.name (both_left (eqb a.name b.name) _ t₂) in
    let l : a.long ≡ b.long = eqb→eq a.long b.long (both_left (eqb a.long b.long) _ t₃) in
    let r : a.rule ≡ b.rule = eqb→eq a.rule b.rule (both_left (eqb a.rule b.rule) _ t₄) in
    let k : a.kind ≡ b.kind = eqb→eq a.kind b.kind (both_right (eqb a.rule b.rule) _ t₄) in
    cc (eta a, eta b)

pub own-columns : (a : Row) → columns a a ≡ true
own-columns a =
    true_is (columns a a)
    (both_intro (eqb a.start a.start) _ (eqb_refl a.start)
    (both_intro (eqb a.width a.width) _ (eqb_refl a.width)
    (both_intro (eqb a.name a.name) _ (eqb_refl a.name) (eqb_refl (mark_number (mark_of (row_kind a)))))))

-- a row of a table: a line that it fits by its columns is its own
abbrev pub Known : Row → Type 0
Known r = (d : Stricter) → Memᴰ d stricter → columns d.row r ≡ true → d.row ≡ r

pub line_known : (i : ℕ) (l : Line) → T (is_known i l) → Known l.row
line_known i l t d m e =
    let k : T (is_known_by l.row 0 d) = (every_mem (is_known_by l.row) d 0 stricter t m).1 in
    row_is d.row l.row (subst (λ (b : Bool). T (not b || same_row d.row l.row)) e k)

-- no two lines have one row
abbrev line_with : List Stricter → ℕ → List Stricter
line_with [] start = []
line_with (d ∷ ds) start = cond (eqb d.row.start start) (d ∷ []) (line_with ds start)

line_with_lem : (d : Stricter) → Memᴰ d stricter → line_with stricter d.row.start ≡ d ∷ []
unfolding stricter
line_with_lem d (Memᴰ.head e) = subst (λ (x : Stricter). line_with stricter x.row.start ≡ x ∷ []) (sym e) refl
line_with_lem d (Memᴰ.tail (Memᴰ.head e)) = subst (λ (x : Stricter). line_with stricter x.row.start ≡ x ∷ []) (sym e) refl
line_with_lem d (Memᴰ.tail (Memᴰ.tail (Memᴰ.head e))) = subst (λ (x : Stricter). line_with stricter x.row.start ≡ x ∷ []) (sym e) refl
line_with_lem d (Memᴰ.tail (Memᴰ.tail (Memᴰ.tail (Memᴰ.head e)))) = subst (λ (x : Stricter). line_with stricter x.row.start ≡ x ∷ []) (sym e) refl
line_with_lem d (Memᴰ.tail (Memᴰ.tail (Memᴰ.tail (Memᴰ.tail m)))) = absurd (Memᴰ.not-nil m)

pub one_line : (a b : Stricter) → Memᴰ a stricter → Memᴰ b stricter → a.row ≡ b.row → a ≡ b
one_line a b m k e =
    ap (λ (ds : List Stricter). first_in ds a) (sym (line_with_lem a m) ∙ ap (λ (r : Row). line_with stricter r.start) e ∙ line_with_lem b k)
  where
    first_in : List Stricter → Stricter → Stricter
    first_in [] d = d
    first_in (x ∷ xs) d = x

-- each line refuses by a number
abbrev refuses : ℕ → Stricter → Bool
refuses i d = not (eqb (reason_number d.reason) 0)

all_refuse : T (every refuses 0 stricter)
unfolding stricter
all_refuse = tt

pub told-number : (d : Stricter) (x : ℕ) → refusal_number (refusal_by d x) ≡ reason_number d.reason
told-number d x = by d.tells
  where
    by : (t : Tells) → refusal_number (telling t d.row.start d.row.width d.reason x) ≡ reason_number d.reason
    by Nothing = refl
    by Number = refl
    by Field = refl

pub line-refuses : (d : Stricter) → Memᴰ d stricter → (x : ℕ) → passed (refusal_by d x) ≡ false
line-refuses d m x =
    ap (λ (n : ℕ). eqb n 0) (told-number d x) ∙ false_is (eqb (reason_number d.reason) 0) (T_not (eqb (reason_number d.reason) 0) (every_mem refuses d 0 stricter all_refuse m).1)
