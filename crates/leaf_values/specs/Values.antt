-- The values that a leaf may have: those that its row allows, and that leave the rows as they are, so that the conditions of 01 say where a number decides.
use Rattle.std.specs.Prelude.{ℕ, zero, suc, ◌+◌, ◌-◌, ◌*◌, ◌^◌, Bool, true, cond, ◌&&◌, ltb, get_or}
use Rattle.layouts.specs.Layouts.{pad}
use Rattle.leaf_values.specs.Leaves.{leaves_of, same_leaves}
use Rattle.records.specs.Bits.{field_of}
use Rattle.records.specs.Rows.{meets}
use Rattle.records.specs.declared.Row.{Row}

-- the leaf at an index, from high bits to low; past the last a row of no width
unfoldable pub leaf_row : ℕ → ℕ → ℕ → Row
leaf_row number iss index = get_or (leaves_of number iss) index pad

-- an ISS with another value in a field: the bits below it, the value, the bits above it
unfoldable pub put_at : ℕ → ℕ → ℕ → ℕ → ℕ
put_at iss start width x = field_of iss 0 start + x * 2 ^ start + field_of iss (start + width) (25 - (start + width)) * 2 ^ (start + width)

-- The values that are looked at: all that the width holds, and the first 64 of a wider field. No condition of 01 names a wider one, and no list of its goes further.
unfoldable pub room_of : ℕ → ℕ
room_of width = cond (ltb width 6) (2 ^ width) 64

unfoldable pub may_be : ℕ → ℕ → ℕ → ℕ → Bool
may_be number iss index x =
    let r = leaf_row number iss index in
    let other = put_at iss r.start r.width x in
    ltb x (room_of r.width) && meets other r && same_leaves number other iss

-- whether a test passes at every number below n
unfoldable pub all_below : (ℕ → Bool) → ℕ → Bool
all_below f zero = true
all_below f (suc n) = all_below f n && f n

-- every value of the leaf's width may stand there
unfoldable pub any_may : ℕ → ℕ → ℕ → Bool
any_may number iss index = all_below (may_be number iss index) (room_of (leaf_row number iss index).width)
