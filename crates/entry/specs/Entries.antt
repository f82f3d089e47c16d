-- 01's flash entry: two bytes of length, the bytes that follow; version 1; two of sequence; eight of ESR.
use Rattle.std.specs.Prelude.{ℕ, ◌+◌, Bool, cond, not, List, [], ◌++◌, eqb, ltb, length, Result, Ok, Err}
use Rattle.std.specs.Borrow.{Bor}
use Rattle.entry.specs.BigEndian.{big_endian, bytes_at, written}
use Rattle.entry.specs.declared.Entry.{Entry}
use Rattle.refusals.specs.Refusals.{bare, passed}
use Rattle.refusals.specs.declared.Reason.{Reason}
use Rattle.refusals.specs.declared.Reason.TheVariants.{None, ShortEntry, BadLength, BadVersion}
use Rattle.refusals.specs.declared.Refusal.{Refusal}

-- the numbers of a block, each by its offset and how many bytes it has
abbrev pub length_in : List ℕ → ℕ
length_in s = big_endian (bytes_at 0 2 s)

abbrev pub version_in : List ℕ → ℕ
version_in s = big_endian (bytes_at 2 1 s)

abbrev pub sequence_in : List ℕ → ℕ
sequence_in s = big_endian (bytes_at 3 2 s)

abbrev pub esr_in : List ℕ → ℕ
esr_in s = big_endian (bytes_at 5 8 s)

-- the judgement, in 01's order: fewer than 2 bytes, 14; length 0, 15; fewer than 2 + length, 14; version, 16; length not 11, 15
unfoldable pub judged : List ℕ → Reason
judged s =
    cond (ltb (length s) 2) ShortEntry
    (cond (eqb (length_in s) 0) BadLength
    (cond (ltb (length s) (2 + length_in s)) ShortEntry
    (cond (not (eqb (version_in s) 1)) BadVersion
    (cond (not (eqb (length_in s) 11)) BadLength
    None))))

abbrev pub sound : List ℕ → Bool
sound s = passed (bare (judged s))

-- the numbers that stand in a block; those of its entry where it is sound, and its refusal where it is not
abbrev pub numbers_in : List ℕ → Entry
numbers_in s = record { esr = esr_in s; sequence = sequence_in s }

unfoldable pub entry_of : List ℕ → Result Entry Refusal
entry_of s = cond (sound s) (Ok (numbers_in s)) (Err (bare (judged s)))

-- the bytes after the length, 11 whatever follows them; none on a refusal
unfoldable pub body_of : List ℕ → List ℕ
body_of s = cond (sound s) (bytes_at 2 11 s) []

-- Which bytes of memory those are.

-- bytes in memory: which piece of memory they lie in, where they begin there, and what they are
pub record Part : Type 0 where
  pub memory : ℕ
  pub offset : ℕ
  pub bytes : List ℕ

-- the bytes that a reference lends
abbrev pub lent : Bor (List ℕ) → Part
lent r = record { memory = r.ref_ptr.0; offset = r.ref_ptr.1; bytes = r.now }

-- where the body begins: after the length; on a refusal where the block does
abbrev pub body_start : List ℕ → ℕ
body_start s = cond (sound s) 2 0

-- the body is those same bytes of the block: in its memory, as far after its offset as the body begins
abbrev pub body_in : Part → Part
body_in block = record { memory = block.memory; offset = body_start block.bytes + block.offset; bytes = body_of block.bytes }

-- An entry written from its numbers.

abbrev pub body_bytes : ℕ → ℕ → List ℕ
body_bytes sequence esr = written 1 1 ++ (written 2 sequence ++ written 8 esr)

abbrev pub entry_bytes : ℕ → ℕ → List ℕ
entry_bytes sequence esr = written 2 11 ++ body_bytes sequence esr
