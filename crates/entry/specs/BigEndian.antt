-- Big-endian numbers: bytes are digits in base 256, highest first.
use Rattle.std.specs.Prelude.{ℕ, zero, suc, ◌+◌, ◌*◌, ◌/◌, ◌%◌, ◌^◌, List, [], ◌∷◌, take, drop}

-- the number that bytes make after those of n
unfoldable pub bytes_after : ℕ → List ℕ → ℕ
bytes_after n [] = n
bytes_after n (b ∷ bs) = bytes_after (n * 256 + b) bs

abbrev pub big_endian : List ℕ → ℕ
big_endian s = bytes_after 0 s

-- some bytes of a block, from an offset on
abbrev pub bytes_at : ℕ → ℕ → List ℕ → List ℕ
bytes_at offset count s = take count (drop offset s)

-- a number written in some bytes
unfoldable pub written : ℕ → ℕ → List ℕ
written zero v = []
written (suc n) v = (v / 256 ^ n % 256) ∷ written n v
