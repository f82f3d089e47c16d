-- What the definitions give under the tests that the code made; texts and tests of one number more.
use Prim.Native.Nat.{ℕ, zero, suc, ◌+◌, ◌-◌}
use mathlib.Core.Bool.{Bool, true, false, ◌||◌}
use mathlib.Core.List.{List, [], ◌∷◌, ◌++◌, append_assoc}
use mathlib.Core.Path.{◌≡◌, refl, sym, ap, ap₂, ◌∙◌}
use native.Mathlib.Nat.{zero-add}
use native.Mathlib.Numerals.{add-one}
use native.Mathlib.Omega.{arith}
use borrow.Author.Tests.{eq-eqb, ne_eqb}
use Rattle.digits.specs.Digits.{numeral}
use Rattle.layout_sets.specs.Outcomes.{outcome_of}
use Rattle.leaf_values.specs.Values.{any_may, leaf_row, may_be, room_of}
use Rattle.leaf_values.proofs.Laws.{range_more}
use Rattle.make_lines.specs.Below.{below, some_below}
use Rattle.make_lines.specs.Help.{before, is_seen, counted, name_part, run_part, set_at, set_text, values_part}
use Rattle.records.specs.declared.Row.{Row}
use Rattle.std.proofs.Math.Bool.{or-false}
use Rattle.std.proofs.lemmas.List.Folds.{list_any-append}
use Rattle.std.specs.List.{list_any, range_with_len}
use Rattle.texts.specs.Pool.{bytes, bytes_at}

-- One number more.

module _ (text : ℕ → List ℕ) where
  pub below_none : below text 0 ≡ []
  unfolding below
  below_none = refl

  pub below_more : (n : ℕ) → below text (n + 1) ≡ below text n ++ text n
  unfolding below
  below_more n = rw (add-one n)

pub any_is : (f : ℕ → Bool) (n : ℕ) → list_any f (range_with_len 0 n) ≡ some_below f n
unfolding some_below
any_is f zero = refl
any_is f (suc n) =
    ap (list_any f) (range_more 0 n) ∙ list_any-append f (range_with_len 0 n) ((0 + n) ∷ [])
    ∙ ap₂ ◌||◌ (any_is f n) (or-false (f (0 + n)) ∙ ap f (zero-add n))

-- Runs of values.

pub before-none : (f : ℕ → Bool) (x : ℕ) → x ≡ 0 → false ≡ before f x
unfolding before
before-none f x e = rw e

pub before-some : (f : ℕ → Bool) (x : ℕ) → (x ≡ 0 → ⊥) → f (x - 1) ≡ before f x
unfolding before
before-some f zero n = absurd (n refl)
before-some f (suc x) n = let e : suc x - 1 ≡ x = omega arith in ap f e

module _ (f : ℕ → Bool) (x : ℕ) where
  pub run_out : f x ≡ false → run_part f x ≡ []
  unfolding run_part
  run_out h = rw h

  module _ (h : f x ≡ true) where
    pub run_first : before f x ≡ false → run_part f x ≡ bytes " 0x" ++ numeral 16 x
    unfolding run_part
    run_first b = rw (h, b)

    module _ (b : before f x ≡ true) where
      pub run_within : f (x + 1) ≡ true → run_part f x ≡ []
      unfolding run_part
      run_within n = rw (h, b, n)

      pub run_last : f (x + 1) ≡ false → run_part f x ≡ bytes "-0x" ++ numeral 16 x
      unfolding run_part
      run_last n = rw (h, b, n)

-- Parts of a line.

module _ (number iss index : ℕ) where
  pub values_any : any_may number iss index ≡ true → values_part number iss index ≡ []
  unfolding values_part
  values_any h = rw h

  pub values-some : (room : ℕ) → room ≡ room_of (leaf_row number iss index).width → any_may number iss index ≡ false
      → values_part number iss index ≡ bytes ":" ++ below (run_part (may_be number iss index)) room
  unfolding values_part
  values-some room e h = rw (h, e)

module _ (n : ℕ) (one more : List ℕ) where
  pub counted-one : n ≡ 1 → counted n one more ≡ numeral 10 n ++ one
  unfolding counted
  counted-one h = rw (eq-eqb n 1 h)

  pub counted-more : (n ≡ 1 → ⊥) → counted n one more ≡ numeral 10 n ++ more
  unfolding counted
  counted-more h = rw (ne_eqb n 1 h)

pub name-short : (r : Row) → r.long ≡ 0 → name_part r ≡ bytes_at r.name ++ []
unfolding name_part
name-short r h = rw (eq-eqb r.long 0 h)

pub name-long : (r : Row) → (r.long ≡ 0 → ⊥) → name_part r ≡ bytes_at r.name ++ bytes ", " ++ bytes_at r.long
unfolding name_part
name-long r h = rw (ne_eqb r.long 0 h) (sym (append_assoc (bytes_at r.name) (bytes ", ") (bytes_at r.long)))

-- Sets.

module _ (number k : ℕ) where
  pub set_seen : is_seen number k ≡ true → set_at number k ≡ []
  unfolding set_at
  set_seen h = rw h

  pub set_new : is_seen number k ≡ false → set_at number k ≡ set_text number (outcome_of k)
  unfolding set_at
  set_new h = rw h
