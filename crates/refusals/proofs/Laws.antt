-- A number that a value can be refused by stands at its place among them, and at no other, by a computed test of the list; 0 has none.
use mathlib.Core.Bool.{Bool, true, false, cond, not, ◌&&◌}
use mathlib.Core.List.{Memᴰ}
use mathlib.Core.Path.{◌≡◌, refl, sym, ap, subst, ◌∙◌}
use Prim.Native.Nat.{ℕ, ◌<◌}
use native.Mathlib.Nat.{zero-add}
use lib.Dec.{T, T_not, eqb, ltb}
use borrow.Author.Tests.{ltb-true}
use Rattle.std.specs.Prelude.{Option, None, Some}
use Rattle.std.specs.Option.{unwrap_or}
use Rattle.promise.proofs.Tests.{both_left, both_right, every, every_mem, false_is, from, from_at, true_is}
use Rattle.refusals.specs.Values.{value_number, value_numbers, value_place}

abbrev agree : Bool → Bool → Bool
agree a b = cond a b (not b)

agreed : (a b : Bool) → T (agree a b) → a ≡ b
agreed true b t = sym (true_is b t)
agreed false true t = absurd t
agreed false false t = refl

-- whether a number was found, at a place that passes a test
abbrev is_found : (ℕ → Bool) → Option ℕ → Bool
is_found passes None = false
is_found passes (Some place) = passes place

abbrev is_at : ℕ → ℕ → Bool
is_at n q = agree (eqb n (value_number q)) (is_found (λ place. eqb place q) (value_place n))

abbrev is_placed : ℕ → ℕ → Bool
is_placed i n = is_found (λ place. ltb place 9) (value_place n) && from (is_at n) 0 9

all_placed : T (every is_placed 0 value_numbers)
unfolding value_numbers value_place
all_placed = tt

-- the place of a number that has one
abbrev pub place_or_9 : ℕ → ℕ
place_or_9 n = unwrap_or (value_place n) 9

module _ (n : ℕ) (m : Memᴰ n value_numbers) where
  placed : T (is_found (λ place. ltb place 9) (value_place n) && from (is_at n) 0 9)
  placed = (every_mem is_placed n 0 value_numbers all_placed m).1

  found : T (is_found (λ place. ltb place 9) (value_place n))
  found = both_left (is_found (λ place. ltb place 9) (value_place n)) _ placed

  pub place-some : value_place n ≡ Some (place_or_9 n)
  place-some = by (value_place n) found
    where
      by : (o : Option ℕ) → T (is_found (λ place. ltb place 9) o) → o ≡ Some (unwrap_or o 9)
      by (Some place) t = refl
      by None t = absurd t

  pub place-small : place_or_9 n < 9
  place-small = by (value_place n) found
    where
      by : (o : Option ℕ) → T (is_found (λ place. ltb place 9) o) → unwrap_or o 9 < 9
      by (Some place) t = ltb-true place 9 (true_is (ltb place 9) t)
      by None t = absurd t

  pub one_place : (q : ℕ) → q < 9 → eqb n (value_number q) ≡ eqb (place_or_9 n) q
  one_place q h =
      agreed _ _
      (subst (λ (k : ℕ). T (is_at n k)) (zero-add q)
      (from_at (is_at n) 0 9 q (both_right (is_found (λ place. ltb place 9) (value_place n)) _ placed) h))
      ∙ ap (is_found (λ place. eqb place q)) place-some

pub zero-unplaced : value_place 0 ≡ None
unfolding value_numbers value_place
zero-unplaced = refl

-- no number of the list is 0
abbrev is_number : ℕ → Bool
is_number q = not (eqb 0 (value_number q))

all-numbers : T (from is_number 0 9)
unfolding value_numbers
all-numbers = tt

pub no_zero : (q : ℕ) → q < 9 → eqb 0 (value_number q) ≡ false
no_zero q h =
    false_is (eqb 0 (value_number q)) (T_not (eqb 0 (value_number q)) (subst (λ (k : ℕ). T (is_number k)) (zero-add q) (from_at is_number 0 9 q all-numbers h)))
