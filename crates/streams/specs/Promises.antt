-- What each public function promises. A promise takes what comes in, then what comes out.
use Rattle.std.specs.Prelude.{ℕ, ◌≤◌, List, ◌≡◌, length, min, ℤ, pos, negsuc, Option, Some, None}
use Rattle.io.specs.Counts.{clamp_len}

-- how many bytes were read, of which no buffer has more than 2⁶³ - 1, or -1
abbrev pub Got : Option ℕ → ℤ → Type 0
Got (Some n) r = r ≡ pos (min n 9223372036854775807)
Got None r = r ≡ negsuc 0

-- the number from 0 to the buffer's length that is nearest to what the read answered
pub record Read (given : ℤ × List ℕ) (r : ℕ) : Type 0 where
  pub is : r ≡ clamp_len given.0 (length given.1)
  pub within : r ≤ length given.1

-- the length of what was copied, or nothing
abbrev pub copied_length : Option ℕ → ℕ
copied_length (Some n) = n
copied_length None = 0

-- the length that copying answered, at most the buffer's; 0 where it answered none
pub record Copied (given : Option ℕ × List ℕ) (r : ℕ) : Type 0 where
  pub is : r ≡ min (copied_length given.0) (length given.1)
  pub within : r ≤ length given.1

-- nothing is held any more
abbrev pub Flushed : List ℕ × ℕ → ℕ → Type 0
Flushed (held, at) r = r ≡ 0
