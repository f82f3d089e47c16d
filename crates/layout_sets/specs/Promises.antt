-- What each public function promises. A promise takes what comes in, then what comes out.
use Rattle.std.specs.Prelude.{ℕ, ◌≡◌}
use Rattle.layout_sets.specs.Outcomes.{outcome_of, index_at}
use Rattle.records.specs.declared.Row.{Row}
use Rattle.tables.specs.Tables.{iss_under}

abbrev pub Outcome : ℕ → ℕ → Type 0
Outcome index r = r ≡ outcome_of index

abbrev pub Index : ℕ × ℕ × ℕ × ℕ → ℕ → Type 0
Index (a, b, c, status) r = r ≡ index_at a b c status

-- the row that stands for an undivided ISS, under a rule
abbrev pub IssRow : ℕ → Row → Type 0
IssRow rule r = r ≡ iss_under rule
