-- The parts of an accepted value, from which it is made again: what the leaves of its records hold.
use Rattle.std.specs.Prelude.{◌≡◌, ℕ, List, ◌∷◌, map}
use Rattle.records.specs.declared.Record.{Record}
use Rattle.esr.specs.declared.Answer.{Answer}
use Rattle.reading.specs.Leaves.{leaves}

-- 01: "Leaves are the first four and ISS's fields, or ISS itself where it has none": RES0, which is 0, ISS2, EC, IL, and those of ISS
abbrev pub Parts : Answer → ℕ → ℕ → ℕ → List ℕ → Type 0
Parts r class il iss2 xs = map (λ (x : Record). x.value) (leaves r.records) ≡ 0 ∷ iss2 ∷ class ∷ il ∷ xs
