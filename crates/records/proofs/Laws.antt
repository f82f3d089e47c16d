-- Laws of the vocabulary, which the crates above cite: fields and their bounds, sets as lists.
use mathlib.Core.Path.{◌≡◌, refl, sym, ap, ap₂, ◌∙◌}
use mathlib.Core.Bool.{cond}
use mathlib.Core.List.{List, [], ◌∷◌, ◌++◌, map, append_assoc, append-nil}
use Prim.Native.Nat.{ℕ, suc, ◌+◌, ◌-◌, ◌*◌, ◌/◌, ◌%◌, ◌^◌, ◌≤◌, ◌<◌}
use native.Mathlib.Nat.{one-mul, mod-lt, mod-eq_of_lt, zero-mod, div-eq_of_lt, lt_of_lt_of_le, lt_of_le_of_lt}
use native.Mathlib.Omega.{arith}
use lib.Bits.{bit_and, and_mask}
use lib.Dec.{ltb}
use lib.ListN.{length, replicate, set, length-append, length-map}
use lib.Pow.{pow_pos, pow_mono, pow-lt, shr_le}
use lib.Seq.{set-append_seam, take-append_seam}
use borrow.Author.Tests.{lt-ltb}
use Rattle.records.specs.Bits.{field_of}
use Rattle.records.specs.Sets.{set_room, no_record, records_of, list_of}
use Rattle.records.specs.declared.Record.{Record}
use Rattle.records.specs.declared.Records.{Records}

-- Fields.

-- a one shifted up within n bits
pub shifted_one : (n w : ℕ) → w < n → 1 * 2 ^ w % 2 ^ n ≡ 2 ^ w
shifted_one n w h = ap (λ (m : ℕ). m % 2 ^ n) (one-mul (2 ^ w)) ∙ mod-eq_of_lt (pow-lt h)

-- less one it is as many ones; so a mask of them is a remainder
pub masked : (n v w : ℕ) → w < n → bit_and v (1 * 2 ^ w % 2 ^ n - 1) ≡ v % 2 ^ w
masked n v w h = ap (λ (m : ℕ). bit_and v (m - 1)) (shifted_one n w h) ∙ and_mask v w

-- a field that starts past the value's bits is 0; a width past them is the rest of the value
module _ (n v start width : ℕ) (small : v < 2 ^ n) where
  pub field_past : n ≤ start → field_of v start width ≡ 0
  unfolding field_of
  field_past h =
      ap (λ x. x % 2 ^ width) (div-eq_of_lt (lt_of_lt_of_le small (pow_mono h))) ∙ zero-mod (2 ^ width)

  pub field-rest : n ≤ width → field_of v start width ≡ v / 2 ^ start
  unfolding field_of
  field-rest h = mod-eq_of_lt (lt_of_le_of_lt (shr_le v start) (lt_of_lt_of_le small (pow_mono h)))

-- a field fits its width
pub field_lt : (v start width : ℕ) → field_of v start width < 2 ^ width
unfolding field_of
field_lt v start width = mod-lt (v / 2 ^ start) (pow_pos width)

-- the assertion of the Rust's as_bit: a row of width 1 holds 0 or 1
pub one_bit_lem : (v position : ℕ) → (field_of v position 1 ≡ 0 → ⊥) → field_of v position 1 ≡ 1
one_bit_lem v position h = omega (arith, field_lt v position 1)

-- Sets.

-- one record more; a full set stays as it is
unfoldable pub pushed : Records → Record → Records
pushed s x = cond (ltb s.count set_room) (record { items = set s.items s.count x; count = s.count + 1 }) s

-- records put on one after the other
unfoldable pub pushed_all : Records → List Record → Records
pushed_all s [] = s
pushed_all s (x ∷ xs) = pushed_all (pushed s x) xs

-- one record more
pub push_law : (l : List Record) (x : Record) → length l < set_room → pushed (records_of l) x ≡ records_of (l ++ (x ∷ []))
unfolding records_of pushed
push_law l x h =
    let n : ℕ = 18 - length l in
    let e : set_room - length l ≡ suc n = omega arith in
    let c : length (l ++ (x ∷ [])) ≡ length l + 1 = length-append l (x ∷ []) in
    let m : set_room - length (l ++ (x ∷ [])) ≡ n = omega (arith, c) in
    rw (lt-ltb (length l) set_room h)
    (ap₂ (λ (is : List Record) (k : ℕ). record { items = is; count = k })
    (ap (λ (k : ℕ). set (l ++ replicate k no_record) (length l) x) e
    ∙ set-append_seam l no_record (replicate n no_record) x
    ∙ sym (append_assoc l (x ∷ []) (replicate n no_record))
    ∙ ap (λ (k : ℕ). (l ++ (x ∷ [])) ++ replicate k no_record) (sym m))
    (sym c))

-- records put on one after the other
pub pushed-all : (l xs : List Record) → length l + length xs ≤ set_room → pushed_all (records_of l) xs ≡ records_of (l ++ xs)
unfolding pushed_all
pushed-all l [] h = ap records_of (sym (append-nil l))
pushed-all l (x ∷ xs) h =
    let c : length (l ++ (x ∷ [])) ≡ length l + 1 = length-append l (x ∷ []) in
    ap (λ (s : Records). pushed_all s xs) (push_law l x (omega arith))
    ∙ pushed-all (l ++ (x ∷ [])) xs (omega (arith, c))
    ∙ ap records_of (append_assoc l (x ∷ []) xs)

pub pushed-last : (s : Records) (xs : List Record) (x : Record) → pushed_all s (xs ++ (x ∷ [])) ≡ pushed (pushed_all s xs) x
unfolding pushed_all
pushed-last s [] x = refl
pushed-last s (y ∷ ys) x = pushed-last (pushed s y) ys x

-- one record written in its slot, and counted, is one record more
pub written : (s : Records) (x : Record) → s.count < set_room → record { items = set s.items s.count x; count = s.count + 1 } ≡ pushed s x
unfolding pushed
written s x h = rw (lt-ltb s.count set_room h) refl

pub pushed-count : (s : Records) (xs : List Record) → s.count + length xs ≤ set_room → (pushed_all s xs).count ≡ s.count + length xs
unfolding pushed_all
pushed-count s [] h = omega arith
pushed-count s (y ∷ ys) h =
    let one : (pushed s y).count ≡ s.count + 1 = ap (λ (r : Records). r.count) (sym (written s y (omega arith))) in
    omega (arith, pushed-count (pushed s y) ys (omega arith), one)

pub list-of : (l : List Record) → list_of (records_of l) ≡ l
unfolding records_of
list-of l = take-append_seam l (replicate (set_room - length l) no_record)

-- equal sets hold equal lists
pub same-list : (l m : List Record) → records_of l ≡ records_of m → l ≡ m
same-list l m e = sym (list-of l) ∙ ap list_of e ∙ list-of m

-- the length of an array of structs that is a field: the array's relation stands at a map over its list
pub long_as : (X Y : Type 0) (f : X → Y) (l : List X) (n : ℕ) → length (map f l) ≡ n → length l ≡ n
long_as X Y f l n p = sym (length-map l f) ∙ p
