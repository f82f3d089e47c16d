-- The bits of a value.
use Rattle.std.specs.Prelude.{ℕ, ◌/◌, ◌%◌, ◌^◌}

-- bits start .. start + width, shifted down; a bit that the value does not have is 0
unfoldable pub field_of : ℕ → ℕ → ℕ → ℕ
field_of v start width = v / 2 ^ start % 2 ^ width
