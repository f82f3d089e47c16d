-- What each public function promises. A promise takes what comes in, then what comes out.
use Rattle.std.specs.Prelude.{ℕ, Bool, List, ◌≡◌, length}
use Rattle.texts.specs.Pool.{bytes_at, length_in, describes, text_code}
use Rattle.lookup.specs.Descriptions.{bit_in}

-- the length of a text; a code that no text has gives 0
abbrev pub LengthOf : ℕ → ℕ → Type 0
LengthOf code r = r ≡ length (bytes_at code)

-- the same by whatever starts are lent
abbrev pub LengthIn : List ℕ × ℕ → ℕ → Type 0
LengthIn (starting, code) r = r ≡ length_in starting code

-- whether a rule describes a value; the code of the description, 0 for none
abbrev pub Describes : ℕ × ℕ → Bool → Type 0
Describes (rule, value) r = r ≡ describes rule value

abbrev pub TextCode : ℕ × ℕ → ℕ → Type 0
TextCode (rule, value) r = r ≡ text_code rule value

-- whether a number is one of those that bits tell
abbrev pub Has : ℕ × ℕ → Bool → Type 0
Has (values, value) r = r ≡ bit_in values value
