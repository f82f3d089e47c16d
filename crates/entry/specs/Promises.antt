-- What each public function promises. A promise takes what comes in, then what comes out.
use Rattle.std.specs.Prelude.{ℕ, List, ◌≡◌, Result}
use Rattle.entry.specs.Entries.{Part, body_in, entry_of}
use Rattle.entry.specs.declared.Entry.{Entry}
use Rattle.refusals.specs.declared.Refusal.{Refusal}

-- the refusal, or the numbers, of a block of any length
abbrev pub Read : List ℕ → Result Entry Refusal → Type 0
Read s r = r ≡ entry_of s

-- the part of the block that is handed back: where it lies, and what it holds
abbrev pub Body : Part → Part → Type 0
Body block r = r ≡ body_in block
