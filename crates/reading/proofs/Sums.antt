-- The sum of the leaves in the steps of the code: one field more, and the two stretches of leaves as one, modulo 2^64.
use Rattle.std.proofs.Common.{◌≡◌, ℕ, suc, ◌+◌, ◌*◌, ◌%◌, ◌^◌, ◌<◌, ◌≤◌, Bool, true, false, cond, ◌&&◌, ltb, leb, List, [], ◌∷◌, ◌++◌, length, get_or, take, drop, sym, refl, ap, ◌∙◌, ap₂, add-zero, add_assoc, mod-eq_of_lt, zero-add, add-one, arith, take-append-drop, length-take-le, take_all, drop-cons, get_or-take, take-take, ltb-false, ltb-true, le-ltb, lt-ltb, le-leb}
use native.Mathlib.Nat.{add-mod-mod, mod-add-mod}
use lib.Seq.{drop-length}
use Prim.Native.Nat.{min}
use Rattle.std.proofs.Math.Nat.{min-le_right, min-eq_left, min-eq_right}
use borrow.Author.Tests.{lt-leb}
use Rattle.records.specs.Sets.{set_room, no_record}
use Rattle.records.specs.declared.Record.{Record}
use Rattle.records.specs.declared.Records.{Records}
use Rattle.reading.specs.Leaves.{leaves_in, leaves, shifted_back, added_up}
use Rattle.reading.specs.Promises.{SumBack}

-- One field.

pub back_none : (x : Record) → x.width ≡ 0 → 0 ≡ shifted_back x % 2 ^ 64
unfolding shifted_back
back_none x h = simp (lt-leb 1 x.width (omega arith))

pub back-past : (x : Record) → 64 < x.start + x.width → 0 ≡ shifted_back x % 2 ^ 64
unfolding shifted_back
back-past x h = by (leb 1 x.width)
  where
    by : (b : Bool) → 0 ≡ cond (b && leb (x.start + x.width) 64) (x.value * 2 ^ x.start) 0 % 2 ^ 64
    by true = simp (lt-leb (x.start + x.width) 64 h)
    by false = refl

pub back_in : (x : Record) → 1 ≤ x.width → x.start + x.width ≤ 64 → x.value * 2 ^ x.start % 2 ^ 64 ≡ shifted_back x % 2 ^ 64
unfolding shifted_back
back_in x a b = simp (le-leb 1 x.width a, le-leb (x.start + x.width) 64 b)

-- Sums modulo 2^64.

-- one field more
pub sum_more : (items : List Record) (to i sum y s : ℕ) → i < to → to ≤ length items → y ≡ shifted_back (get_or items i no_record) % 2 ^ 64
    → s ≡ (sum + y) % 2 ^ 64
    → (sum + added_up (drop i (take to items))) % 2 ^ 64 ≡ (s + added_up (drop (i + 1) (take to items))) % 2 ^ 64
unfolding added_up
sum_more items to i sum y s less within is new =
    let l : length (take to items) ≡ to = length-take-le to items within in
    let h : i < length (take to items) = omega arith in
    let x : ℕ = shifted_back (get_or items i no_record) in
    let rest : ℕ = added_up (drop (suc i) (take to items)) in
    let one : s ≡ (sum + x) % 2 ^ 64 = new ∙ ap (λ (n : ℕ). (sum + n) % 2 ^ 64) is ∙ add-mod-mod sum x (2 ^ 64) in
    rw (add-one, drop-cons (take to items) i no_record h, get_or-take to items i no_record less)
    (ap (λ (n : ℕ). n % 2 ^ 64) (sym (add_assoc sum x rest))
    ∙ sym (ap (λ (n : ℕ). (n + rest) % 2 ^ 64) one ∙ mod-add-mod (sum + x) (2 ^ 64) rest))

-- no field left
pub sum_done : (items : List Record) (to i sum : ℕ) → i ≡ to → to ≤ length items → sum < 2 ^ 64
    → (sum + added_up (drop i (take to items))) % 2 ^ 64 ≡ sum
unfolding added_up
sum_done items to i sum e within small =
    let l : length (take to items) ≡ to = length-take-le to items within in
    ap (λ (n : ℕ). (sum + added_up (drop n (take to items))) % 2 ^ 64) (e ∙ sym l)
    ∙ ap (λ (xs : List Record). (sum + added_up xs) % 2 ^ 64) (drop-length (take to items))
    ∙ ap (λ (n : ℕ). n % 2 ^ 64) (add-zero sum)
    ∙ mod-eq_of_lt small

pub sum-append : (xs ys : List Record) → added_up (xs ++ ys) ≡ added_up xs + added_up ys
unfolding added_up
sum-append [] ys = sym (zero-add (added_up ys))
sum-append (x ∷ xs) ys = ap (λ (n : ℕ). shifted_back x + n) (sum-append xs ys) ∙ sym (add_assoc (shifted_back x) (added_up xs) (added_up ys))

-- The leaves of a set by its count, held to the set's room.
module _ (s : Records) (n : ℕ) (long : length s.items ≡ set_room) (is : n ≡ min s.count set_room) where
  pub within : n ≤ set_room
  within = omega (arith, is, min-le_right s.count set_room)

  counted : take s.count s.items ≡ take n s.items
  counted = by (ltb s.count set_room) refl
    where
      by : (b : Bool) → ltb s.count set_room ≡ b → take s.count s.items ≡ take n s.items
      by true e =
          let few : s.count ≤ set_room = let h = ltb-true s.count set_room e in omega arith in
          ap (λ (k : ℕ). take k s.items) (sym (is ∙ min-eq_left few))
      by false e =
          let many : set_room ≤ s.count = ltb-false s.count set_room e in
          let all : n ≡ set_room = is ∙ min-eq_right many in
          take_all s.count s.items (omega arith) ∙ sym (take_all n s.items (omega arith))

  -- a set of up to five: all of them
  pub few-leaves : n ≤ 5 → leaves s ≡ drop 0 (take n s.items)
  unfolding leaves leaves_in
  few-leaves h =
      let l : length (take n s.items) ≡ n = length-take-le n s.items (omega (arith, within)) in
      ap leaves_in counted ∙ simp (le-ltb 5 (length (take n s.items)) (omega arith)) (take-append-drop 4 (take n s.items))

  -- a larger set: the first four, and those after the fifth
  pub many-leaves : 5 < n → leaves s ≡ drop 0 (take 4 s.items) ++ drop 5 (take n s.items)
  unfolding leaves leaves_in
  many-leaves h =
      let l : length (take n s.items) ≡ n = length-take-le n s.items (omega (arith, within)) in
      ap leaves_in counted
      ∙ simp (lt-ltb 5 (length (take n s.items)) (omega arith))
      (ap (λ (xs : List Record). xs ++ drop 5 (take n s.items)) (take-take 4 n s.items (omega arith)))

  pub few-sum : (r : ℕ) → n ≤ 5 → r ≡ added_up (drop 0 (take n s.items)) % 2 ^ 64 → SumBack s r
  few-sum r h e = e ∙ ap (λ (xs : List Record). added_up xs % 2 ^ 64) (sym (few-leaves h))

  pub many-sum : (a b r : ℕ) → 5 < n → a ≡ added_up (drop 0 (take 4 s.items)) % 2 ^ 64 → b ≡ added_up (drop 5 (take n s.items)) % 2 ^ 64
      → r ≡ (a + b) % 2 ^ 64 → SumBack s r
  many-sum a b r h p q e =
      let x : ℕ = added_up (drop 0 (take 4 s.items)) in
      let y : ℕ = added_up (drop 5 (take n s.items)) in
      e
      ∙ ap₂ (λ (j k : ℕ). (j + k) % 2 ^ 64) p q
      ∙ mod-add-mod x (2 ^ 64) (y % 2 ^ 64)
      ∙ add-mod-mod x y (2 ^ 64)
      ∙ sym (ap (λ (xs : List Record). added_up xs % 2 ^ 64) (many-leaves h) ∙ ap (λ (k : ℕ). k % 2 ^ 64) (sum-append (drop 0 (take 4 s.items)) (drop 5 (take n s.items))))
