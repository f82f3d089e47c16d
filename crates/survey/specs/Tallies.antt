-- What the functions below the survey do to a table of counts, place by place.
use Rattle.std.specs.Prelude.{ℕ, ◌+◌, ◌^◌, ◌<◌, Bool, cond, List, ◌≡◌, length, get_or}

-- there is room for one value more in each count
abbrev pub Roomy : List ℕ → Type 0
Roomy t = (p : ℕ) → p < length t → get_or t p 0 + 1 < 2 ^ 32

-- one value more: each count grows by one where the test of its place holds of the value, and stays otherwise
pub record Noted (is : ℕ → ℕ → Bool) (v : ℕ) (before after : List ℕ) : Type 0 where
  pub places : length after ≡ length before
  pub each : (p : ℕ) → p < length before → get_or after p 0 ≡ get_or before p 0 + cond (is p v) 1 0
