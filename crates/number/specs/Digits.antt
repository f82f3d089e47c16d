-- Bases, and what a character is worth as a digit.
use Prim.Native.Char.{Char, code}
use Rattle.std.specs.Prelude.{ℕ, ◌+◌, ◌-◌, Bool, cond, ◌&&◌, nat_le}

-- "0x" selects base 16, else 10
abbrev pub base_of : Bool → ℕ
base_of hex = cond hex 16 10

-- a character from one to another, both included
abbrev pub between : Char → Char → ℕ → Bool
between low high b = nat_le (code low) b && nat_le b (code high)

-- what no digit of either base is worth
abbrev pub no_digit : ℕ
no_digit = 16

-- what a character is worth as a digit, letters of either case; a byte above 0x7F is none
unfoldable pub digit_of : ℕ → ℕ
digit_of b =
    cond (between "0" "9" b) (b - code "0")
    (cond (between "a" "f" b) (10 + (b - code "a"))
    (cond (between "A" "F" b) (10 + (b - code "A"))
    no_digit))
