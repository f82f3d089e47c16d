-- What each public function promises. A promise takes what comes in, then what comes out.
use Rattle.std.specs.Prelude.{ℕ, Bool, ◌≡◌, length}
use Rattle.leaf_values.specs.Leaves.{leaves_of, same_leaves, same_rows}
use Rattle.leaf_values.specs.Values.{any_may, leaf_row, may_be, room_of}
use Rattle.records.specs.declared.Row.{Row}

-- of the layout of a number and an ISS
abbrev pub LeafCount : ℕ × ℕ → ℕ → Type 0
LeafCount (number, iss) r = r ≡ length (leaves_of number iss)

abbrev pub LeafRow : ℕ × ℕ × ℕ → Row → Type 0
LeafRow (number, iss, index) r = r ≡ leaf_row number iss index

-- of two layouts, each with an ISS
abbrev pub SameSets : ℕ × ℕ × ℕ × ℕ → Bool → Type 0
SameSets (number, iss, second, other) r = r ≡ same_rows (leaves_of number iss) (leaves_of second other)

abbrev pub SameLeaves : ℕ × ℕ × ℕ → Bool → Type 0
SameLeaves (number, iss, other) r = r ≡ same_leaves number iss other

abbrev pub RoomOf : ℕ → ℕ → Type 0
RoomOf width r = r ≡ room_of width

abbrev pub MayBe : ℕ × ℕ × ℕ × ℕ → Bool → Type 0
MayBe (number, iss, index, x) r = r ≡ may_be number iss index x

abbrev pub AnyMay : ℕ × ℕ × ℕ → Bool → Type 0
AnyMay (number, iss, index) r = r ≡ any_may number iss index
