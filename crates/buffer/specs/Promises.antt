-- What each public function promises: of what comes in and what the buffer holds before, the next offset and what the buffer holds after.
use Rattle.std.specs.Prelude.{ℕ, ◌+◌, List, ◌≡◌}
use Rattle.buffer.specs.Appending.{offset, Appends}
use Rattle.buffer.specs.Lent.{part_in}
use Rattle.texts.specs.Pool.{bytes_at}

-- the offset after so many bytes
abbrev pub OffsetAfter : ℕ × ℕ → ℕ → Type 0
OffsetAfter (at, count) r = r ≡ offset (at + count)

abbrev pub BytesPut : List ℕ × ℕ × List ℕ → ℕ × List ℕ → Type 0
BytesPut (before, at, text) out = Appends text (at, before) out

-- the pool and its starts are whatever is lent
abbrev pub TextPut : List ℕ × ℕ × List ℕ × List ℕ × ℕ → ℕ × List ℕ → Type 0
TextPut (before, at, lent, starting, code) out = Appends (part_in lent starting code) (at, before) out

-- the text of a code, of the project's own pool
abbrev pub CodePut : List ℕ × ℕ × ℕ → ℕ × List ℕ → Type 0
CodePut (before, at, code) out = Appends (bytes_at code) (at, before) out
