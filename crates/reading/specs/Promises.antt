-- What the public function promises. A promise takes what comes in, then what comes out.
use Rattle.std.specs.Prelude.{◌≡◌, ℕ, ◌%◌, ◌^◌}
use Rattle.records.specs.declared.Records.{Records}
use Rattle.reading.specs.Leaves.{leaves, added_up}

-- the leaves of any set, shifted back and added up, modulo 2^64
abbrev pub SumBack : Records → ℕ → Type 0
SumBack records r = r ≡ added_up (leaves records) % 2 ^ 64
