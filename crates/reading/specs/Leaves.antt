-- The leaves of a record set, how they lie, and what they add up to.
use Rattle.std.specs.Prelude.{◌≡◌, ℕ, ◌+◌, ◌*◌, ◌^◌, ◌≤◌, Bool, cond, ◌&&◌, List, [], ◌∷◌, ◌++◌, length, take, drop, nat_le, nat_lt}
use Rattle.records.specs.Sets.{list_of}
use Rattle.records.specs.declared.Record.{Record}
use Rattle.records.specs.declared.Records.{Records}

-- "Leaves are the first four and ISS's fields, or ISS itself where it has none": ISS is the fifth
unfoldable pub leaves_in : List Record → List Record
leaves_in l = take 4 l ++ cond (nat_lt 5 (length l)) (drop 5 l) (drop 4 l)

-- the leaves of the records that a set counts; a count past the set's room counts all that it holds
unfoldable pub leaves : Records → List Record
leaves s = leaves_in (list_of s)

-- records that lie from bit top - 1 down to bit 0 without gap or overlap
pub data Tile : ℕ → List Record → Type 0 where
  done : Tile 0 []
  next : {top : ℕ} {x : Record} {xs : List Record} → x.start + x.width ≡ top → 1 ≤ x.width → Tile x.start xs → Tile top (x ∷ xs)

-- a field shifted back to its bits; one that does not lie within 64 bits adds nothing
abbrev pub lies : Record → Bool
lies x = nat_le 1 x.width && nat_le (x.start + x.width) 64

unfoldable pub shifted_back : Record → ℕ
shifted_back x = cond (lies x) (x.value * 2 ^ x.start) 0

unfoldable pub added_up : List Record → ℕ
added_up [] = 0
added_up (x ∷ xs) = shifted_back x + added_up xs
