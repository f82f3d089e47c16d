-- A rule in numbers describes the values that the rule describes: the bits are read back one by one, below 64 and past it.
use mathlib.Core.Path.{◌≡◌, refl, sym, ap, ap₂, ◌∙◌, subst}
use mathlib.Core.Bool.{Bool, true, false, cond, ◌&&◌}
use mathlib.Core.List.{List, [], ◌∷◌}
use Prim.Native.Nat.{ℕ, zero, suc, ◌+◌, ◌-◌, ◌*◌, ◌/◌, ◌%◌, ◌^◌, ◌≤◌, ◌<◌}
use native.Mathlib.Nat.{add-zero, add-suc, suc-add, zero-add, le_of_suc-le-suc, not-suc-le-zero}
use native.Mathlib.Omega.{arith}
use lib.Dec.{T, eqb, ltb, eqb→eq}
use lib.Pow.{shr-shr}
use lib.ListN.{take, get_or-eq_default}
use lib.Seq.{take_all}
use borrow.Author.Tests.{ltb-true, ltb-false}
use Rattle.promise.proofs.Tests.{both_left, both_right, from, from_at}
use Rattle.texts.specs.Rules.{Rule, plain, rules}
use Rattle.texts.specs.Pool.{on_list, rule_at, describes, codes_of, name_room, first_of}
use Rattle.lookup.specs.Descriptions.{bit, bits_of, numbers_of, bit_in}
use Rattle.texts.proofs.Laws.{codes-small, describes-below}

bit_lt : (b : Bool) → bit b < 2
bit_lt true = omega arith
bit_lt false = omega arith

bits_at : (f : ℕ → Bool) (v k n : ℕ) → v < n → bits_of f k n / 2 ^ v % 2 ≡ bit (f (k + v))
unfolding bits_of
bits_at f v k zero h = absurd (not-suc-le-zero h)
bits_at f zero k (suc n) h =
    let l : bit (f k) < 2 = bit_lt (f k) in
    let m : ℕ = bits_of f (suc k) n in
    let e : (m * 2 + bit (f k)) / 1 % 2 ≡ bit (f k) = omega arith in
    e ∙ ap (λ (j : ℕ). bit (f j)) (sym (add-zero k))
bits_at f (suc v) k (suc n) h =
    let l : bit (f k) < 2 = bit_lt (f k) in
    let m : ℕ = bits_of f (suc k) n in
    let e : (m * 2 + bit (f k)) / 2 ≡ m = omega arith in
    let s : 1 + v ≡ suc v = omega arith in
    ap (λ (j : ℕ). (m * 2 + bit (f k)) / 2 ^ j % 2) (sym s)
    ∙ ap (λ (x : ℕ). x % 2) (sym (shr-shr (m * 2 + bit (f k)) 1 v))
    ∙ ap (λ (x : ℕ). x / 2 ^ v % 2) e
    ∙ bits_at f v (suc k) n (le_of_suc-le-suc h)
    ∙ ap (λ (j : ℕ). bit (f j)) (suc-add k v ∙ sym (add-suc k v))

eqb_bit : (b : Bool) → eqb (bit b) 1 ≡ b
eqb_bit true = refl
eqb_bit false = refl

-- a value that a rule describes is below 64
pub describes-small : (rule value : ℕ) → T (describes rule value) → value < 64
describes-small rule value t = omega (arith, describes-below rule value t, codes-small rule)

-- bits say what a test that fails from 64 on says
pub bits_in : (f : ℕ → Bool) → ((x : ℕ) → T (f x) → x < 64) → (value : ℕ) → bit_in (bits_of f 0 64) value ≡ f value
unfolding bit_in
bits_in f small value = by-test (ltb value 64) refl (f value) refl
  where
    by-test : (b : Bool) → ltb value 64 ≡ b → (s : Bool) → f value ≡ s → cond b (eqb (bits_of f 0 64 / 2 ^ value % 2) 1) false ≡ f value
    by-test true e s q = ap (λ x. eqb x 1) (bits_at f value 0 64 (ltb-true value 64 e)) ∙ eqb_bit (f (0 + value)) ∙ ap f (zero-add value)
    by-test false e true q = absurd (omega (arith, ltb-false value 64 e, small value (subst T (sym q) tt)))
    by-test false e false q = sym q

-- the bits of a rule say which values it describes
pub bit_in_lem : (rule value : ℕ) → bit_in (numbers_of rule).0 value ≡ describes rule value
unfolding numbers_of
bit_in_lem rule value = bits_in (describes rule) (describes-small rule) value

-- no rule's texts start past the last one's
codes_le : (rs : List Rule) (n : ℕ) → codes_of (take n rs) ≤ codes_of rs
unfolding codes_of
codes_le rs zero = omega arith
codes_le [] (suc n) = omega arith
codes_le (r ∷ rs) (suc n) = omega (arith, codes_le rs n)

pub first_le : (rule : ℕ) → first_of rule ≤ 597
unfolding first_of codes_of rules
first_le rule = omega (arith, codes_le rules rule)

-- the rules 1 .. 31 are of one bit, with two codes each
abbrev one_bit : ℕ → Bool
one_bit n = eqb 3 (numbers_of n).0 && eqb (128 + 2 * (n - 1)) (numbers_of n).1

one-bits : T (from one_bit 1 31)
unfolding numbers_of bits_of describes on_list rule_at first_of codes_of rules
one-bits = tt

pub one_bit_lem : (n : ℕ) → 1 ≤ n → n < 32 → (3, 128 + 2 * (n - 1)) ≡ numbers_of n
one_bit_lem n a b =
    let e : 1 + (n - 1) ≡ n = omega arith in
    let t : T (one_bit n) = subst (λ m. T (one_bit m)) e (from_at one_bit 1 31 (n - 1) one-bits (omega arith)) in
    ap₂ (λ (x y : ℕ). (x, y))
    (eqb→eq 3 (numbers_of n).0 (both_left (eqb 3 (numbers_of n).0) _ t))
    (eqb→eq (128 + 2 * (n - 1)) (numbers_of n).1 (both_right (eqb 3 (numbers_of n).0) _ t))

-- a number past the last rule describes nothing
no_bits : (f : ℕ → Bool) → ((v : ℕ) → f v ≡ false) → (k n : ℕ) → bits_of f k n ≡ 0
unfolding bits_of
no_bits f h k zero = refl
no_bits f h k (suc n) = ap₂ (λ (x : ℕ) (b : Bool). x * 2 + bit b) (no_bits f h (suc k) n) (h k)

pub no_rule : (n : ℕ) → 50 ≤ n → (0, 597) ≡ numbers_of n
unfolding numbers_of describes on_list rule_at first_of codes_of rules
no_rule n h =
    let none : rule_at n ≡ plain = get_or-eq_default rules plain h in
    ap₂ (λ (x y : ℕ). (x, y))
    (sym (no_bits (describes n) (λ v. ap (λ (r : Rule). on_list r.texts v) none) 0 64))
    (sym (ap (λ (l : List Rule). name_room + codes_of l) (take_all n rules h)))
