-- What each public function promises. A promise takes what comes in, then what comes out.
use Rattle.std.specs.Prelude.{ℕ, List, ◌≡◌, length, get_or}
use Rattle.layouts.specs.Layouts.{pad}
use Rattle.records.specs.declared.Row.{Row}
use Rattle.turn_fields.specs.Fields.{fields_of, place_of}
use Rattle.turn_fields.specs.declared.Found.{Found}

abbrev pub FieldCount : ℕ → ℕ → Type 0
FieldCount esr r = r ≡ length (fields_of esr)

-- past the last a row of no width
abbrev pub FieldRow : ℕ × ℕ → Row → Type 0
FieldRow (esr, index) r = r ≡ get_or (fields_of esr) index pad

abbrev pub Find : ℕ × List ℕ → Found → Type 0
Find (esr, word) r = r ≡ place_of esr word
