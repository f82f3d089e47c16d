-- Texts in a lent buffer, one after the other, as C's snprintf has it: a text is written as far as the buffer goes, and the offset counts on past
-- its end. So texts put one after the other are one text, whatever the buffer's length.
use Rattle.std.specs.Prelude.{ℕ, ◌+◌, ◌-◌, ◌^◌, cond, List, ◌≡◌, ltb, length, take}
use Rattle.std.proofs.lemmas.List.Edits.{sets}

-- an offset, or the last one that a usize holds, at or past the end of every buffer
unfoldable pub offset : ℕ → ℕ
offset n = cond (ltb n (2 ^ 64)) n (2 ^ 64 - 1)

-- how many bytes a buffer has from an offset on
abbrev pub room : List ℕ → ℕ → ℕ
room before at = offset (length before) - at

-- the next offset and the buffer, of a text, an offset and the buffer before
unfoldable pub appended : List ℕ → ℕ × List ℕ → ℕ × List ℕ
appended text (at, before) = (offset (at + length text), sets before at (take (room before at) text))

-- the same as a fact: what an appender of the text leaves
pub record Appends (text : List ℕ) (from : ℕ × List ℕ) (out : ℕ × List ℕ) : Type 0 where
  pub is : out ≡ appended text from
