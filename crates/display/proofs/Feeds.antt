-- #112: a phrase is written as it is, a line feed in it too: its line then has as many line feeds more as the phrase has. What stands behind one is a
-- line of its own, without "# " and without the indent. By counting line feeds, one part of the line after the other.
use Prim.Native.Nat.{ℕ, ◌+◌}
use mathlib.Core.Bool.{Bool, true, false, cond}
use mathlib.Core.List.{List, [], ◌∷◌, ◌++◌}
use mathlib.Core.Path.{◌≡◌, refl}
use native.Mathlib.Omega.{arith}
use lib.Dec.{eqb, ltb}
use Rattle.phrases.specs.Sheets.{found}
use Rattle.texts.specs.Pool.{bytes}
use Rattle.display.specs.Listings.{indent_at, found_line}

-- how many line feeds there are
unfoldable pub feeds : List ℕ → ℕ
feeds [] = 0
feeds (b ∷ bs) = cond (eqb b 10) 1 0 + feeds bs

feeds-append : (a b : List ℕ) → feeds (a ++ b) ≡ feeds a + feeds b
unfolding feeds
feeds-append [] b = omega arith
feeds-append (x ∷ xs) b = omega (arith, feeds-append xs b)

no_indent : (index : ℕ) → feeds (indent_at index) ≡ 0
unfolding feeds indent_at bytes
no_indent index = by (ltb index 5)
  where
    by : (b : Bool) → feeds (cond b [] (bytes "  ")) ≡ 0
    by true = refl
    by false = refl

pub phrase-feeds : (index : ℕ) (text : List ℕ) → feeds (found_line index (found text)) ≡ feeds text + 1
unfolding found_line feeds bytes
phrase-feeds index text =
    omega (arith, feeds-append (indent_at index) (bytes "# " ++ (text ++ bytes "\n")), no_indent index, feeds-append text (bytes "\n"))
