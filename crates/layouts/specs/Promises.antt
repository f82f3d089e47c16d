-- What the public function promises. A promise takes what comes in, then what comes out.
use Rattle.std.specs.Prelude.{ℕ, ◌≡◌}
use Rattle.layouts.specs.Layouts.{layout_for}
use Rattle.layouts.specs.Layouts.{table_of}
use Rattle.layouts.specs.declared.Layout.{Layout}

-- the rows of the layout of this number that apply to this ISS, and those to check in order
abbrev pub LayoutOf : ℕ × ℕ → Layout → Type 0
LayoutOf (number, iss) r = r ≡ layout_for (table_of number) iss
