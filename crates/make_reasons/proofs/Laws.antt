-- What the definitions give under the tests that the code made.
use Prim.Native.Nat.{ℕ, suc, ◌+◌, ◌-◌, ◌*◌, ◌%◌, ◌^◌, ◌≤◌, ◌<◌}
use mathlib.Core.Bool.{true, false}
use mathlib.Core.List.{List, [], ◌++◌}
use mathlib.Core.Path.{◌≡◌, ap}
use native.Mathlib.Omega.{arith}
use lib.Dec.{leb}
use lib.ListN.{length, get_or}
use borrow.Author.Tests.{lt-ltb, le-ltb}
use Rattle.digits.specs.Digits.{numeral}
use Rattle.leaf_values.specs.Values.{leaf_row}
use Rattle.make_lines.specs.Help.{leaves_part}
use Rattle.make_reasons.specs.Reasons.{class_part, count_part, counts_part, first_wide, has_count, has_fewer, no_layout, too_wide, wide_at, wide_leaf, wider}
use Rattle.records.proofs.Laws.{shifted_one}
use Rattle.records.specs.declared.Row.{Row}
use Rattle.texts.specs.Pool.{bytes}

-- The numbers of leaves.

module _ (number n : ℕ) where
  pub count_none : has_count number n ≡ false → count_part number n ≡ []
  unfolding count_part
  count_none h = rw h

  module _ (h : has_count number n ≡ true) where
    pub count_or : has_fewer number n ≡ true → count_part number n ≡ bytes " or " ++ numeral 10 n
    unfolding count_part
    count_or f = rw (h, f)

    pub count-first : has_fewer number n ≡ false → count_part number n ≡ bytes " " ++ numeral 10 n
    unfolding count_part
    count-first f = rw (h, f)

module _ (class number count : ℕ) where
  pub no_values : has_count number count ≡ true
      → no_layout class number count ≡ bytes "no set of " ++ leaves_part count ++ class_part class ++ bytes " has these values where they decide"
  unfolding no_layout
  no_values h = rw h

  pub no_count : has_count number count ≡ false
      → no_layout class number count ≡ bytes "the number of leaves" ++ class_part class ++ bytes " is" ++ counts_part number ++ bytes ", not " ++ numeral 10 count
  unfolding no_layout
  no_count h = rw h

-- What is too wide.

module _ (il iss2 number iss : ℕ) (leaves : List ℕ) where
  pub wide_il : 1 < il → too_wide il iss2 number iss leaves ≡ bytes "IL" ++ wider il 1
  unfolding too_wide
  wide_il h = rw (lt-ltb 1 il h)

  module _ (l : il ≤ 1) where
    pub wide_iss2 : 31 < iss2 → too_wide il iss2 number iss leaves ≡ bytes "ISS2" ++ wider iss2 5
    unfolding too_wide
    wide_iss2 h = rw (le-ltb 1 il l, lt-ltb 31 iss2 h)

    pub wide_leaves : iss2 ≤ 31 → too_wide il iss2 number iss leaves ≡ wide_at number iss leaves (first_wide number iss leaves 0 (length leaves))
    unfolding too_wide
    wide_leaves h = rw (le-ltb 1 il l, le-ltb 31 iss2 h)

module _ (number iss : ℕ) (leaves : List ℕ) (i : ℕ) where
  pub wide_done : length leaves ≤ i → first_wide number iss leaves i (length leaves - i) ≡ i
  unfolding first_wide
  wide_done h = let e : length leaves - i ≡ 0 = omega arith in rw e

  pub wide_none : length leaves ≤ i → wide_at number iss leaves i ≡ []
  unfolding wide_at
  wide_none h = rw (le-ltb i (length leaves) h)

  module _ (h : i < length leaves) where
    pub wide_told : wide_at number iss leaves i ≡ wide_leaf i (leaf_row number iss i) (get_or leaves i 0)
    unfolding wide_at
    wide_told = rw (lt-ltb i (length leaves) h)

    one_less : length leaves - i ≡ suc (length leaves - (i + 1))
    one_less = omega arith

    module _ (r : Row) (is : r ≡ leaf_row number iss i) where
      pub wide_here : leb (2 ^ r.width) (get_or leaves i 0) ≡ true → first_wide number iss leaves i (length leaves - i) ≡ i
      unfolding first_wide
      wide_here t = rw (one_less, ← is, t)

      pub wide_later : leb (2 ^ r.width) (get_or leaves i 0) ≡ false
          → first_wide number iss leaves i (length leaves - i) ≡ first_wide number iss leaves (i + 1) (length leaves - (i + 1))
      unfolding first_wide
      wide_later t = rw (one_less, ← is, t)

pub from_first : (number iss : ℕ) (leaves : List ℕ) → first_wide number iss leaves 0 (length leaves) ≡ first_wide number iss leaves 0 (length leaves - 0)
from_first number iss leaves = let e : length leaves ≡ length leaves - 0 = omega arith in ap (first_wide number iss leaves 0) e

pub bit_at : (w x : ℕ) → w < 64 → leb (1 * 2 ^ w % 2 ^ 64) x ≡ leb (2 ^ w) x
bit_at w x h = ap (λ (n : ℕ). leb n x) (shifted_one 64 w h)
