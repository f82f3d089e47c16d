-- What the definitions give under the tests that the code made.
use Prim.Native.Nat.{ℕ, ◌≤◌}
use mathlib.Core.Bool.{Bool, true, false, cond}
use mathlib.Core.List.{List, [], ◌∷◌, ◌++◌}
use mathlib.Core.Path.{◌≡◌}
use native.Mathlib.Omega.{arith}
use lib.ListN.{length}
use Rattle.digits.specs.Digits.{numeral}
use Rattle.number.specs.Rest.{is_stop, before_stop, read_of}
use Rattle.number.proofs.Rest.{read_taken}
use Rattle.number.specs.declared.NumberRead.{NumberRead}
use Rattle.std.specs.Prelude.{Ok}
use Rattle.sheets.specs.Standard.{is_records}
use Rattle.texts.specs.Pool.{bytes, bytes_at}
use Rattle.sheet_lines.specs.Lines.{code_line}

-- the number stands in its line
before-within : (s : List ℕ) → length (before_stop s) ≤ length s
unfolding before_stop
before-within [] = omega arith
before-within (b ∷ bs) = by (is_stop b) (before-within bs)
  where
    by : (t : Bool) → length (before_stop bs) ≤ length bs → length (cond t [] (b ∷ before_stop bs)) ≤ length (b ∷ bs)
    by true h = omega arith
    by false h = omega arith

pub taken-within : (line : List ℕ) {n : NumberRead} → read_of line ≡ Ok n → n.taken ≤ length line
taken-within line is = rw (read_taken line is) (before-within line)

-- the line of a code
pub no_line : (code : ℕ) → is_records code ≡ false → code_line code ≡ []
unfolding code_line
no_line code h = rw h

pub a-line : (code : ℕ) → is_records code ≡ true → code_line code ≡ numeral 10 code ++ (bytes " " ++ (bytes_at code ++ bytes "\n"))
unfolding code_line
a-line code h = rw h
