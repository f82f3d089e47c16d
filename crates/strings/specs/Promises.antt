-- What each public function promises: of what comes in and what the buffer holds before, the next offset and what the buffer holds after.
use Rattle.std.specs.Prelude.{ℕ, List}
use Rattle.buffer.specs.Appending.{Appends}
use Rattle.strings.specs.Fields.{string_text, field_text}
use Rattle.strings.specs.Messages.{message_in}
use Rattle.strings.specs.declared.Form.{Form}

-- one of a field's two value strings
abbrev pub StringPut : List ℕ × ℕ × Form × ℕ × ℕ → ℕ × List ℕ → Type 0
StringPut (before, at, form, width, value) out = Appends (string_text form width value) (at, before) out

-- a value as it stands in a record's line
abbrev pub FieldPut : List ℕ × ℕ × ℕ × ℕ → ℕ × List ℕ → Type 0
FieldPut (before, at, width, value) out = Appends (field_text width value) (at, before) out

-- a message from an offset on, by a pool and starts that are lent
abbrev pub MessagePut : List ℕ × ℕ × List ℕ × List ℕ × ℕ × ℕ × ℕ × ℕ → ℕ × List ℕ → Type 0
MessagePut (before, at, lent, starting, number, carried, start, width) out =
    Appends (message_in lent starting number carried start width) (at, before) out
