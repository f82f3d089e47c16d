-- What each public function promises. A promise takes what comes in, then what comes out.
use Rattle.std.specs.Prelude.{ℕ, Bool, ◌≡◌}
use Rattle.named_fields.specs.Fields.{have_same_rows, is_named}

-- of a class and a field's bits
abbrev pub IsNamed : ℕ × ℕ × ℕ → Bool → Type 0
IsNamed (class, start, width) r = r ≡ is_named class start width

abbrev pub SameRows : ℕ × ℕ → Bool → Type 0
SameRows (first, second) r = r ≡ have_same_rows first second
