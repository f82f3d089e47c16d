-- What each public function promises: of what comes in and what the buffer holds before, the answer and what the buffer
-- holds after.
use Rattle.std.specs.Prelude.{ℕ, cond, List, ◌≡◌, leb, length, Result, Ok, Err}
use Rattle.refusals.specs.Refusals.{carrying}
use Rattle.refusals.specs.declared.Reason.{Reason}
use Rattle.refusals.specs.declared.Reason.TheVariants.{ShortBuffer}
use Rattle.refusals.specs.declared.Refusal.{Refusal}
use Rattle.written.specs.Outcomes.{Answers, refusal}
use Rattle.written.specs.Requested.{value_string, binary_string, message_of}

-- a refusal, which wrote nothing
abbrev pub WrittenRefused : Reason × ℕ → Result ℕ Refusal → Type 0
WrittenRefused (reason, carries) r = r ≡ refusal (carrying reason carries)

-- so many bytes, where a buffer has room for them
abbrev pub RoomFor : ℕ × List ℕ → Result ℕ Refusal → Type 0
RoomFor (bytes, buf) r = r ≡ cond (leb bytes (length buf)) (Ok bytes) (Err (carrying ShortBuffer bytes))

abbrev pub ValueString : ℕ × ℕ × List ℕ → Result ℕ Refusal × List ℕ → Type 0
ValueString (width, value, before) out = Answers (value_string width value) before out

abbrev pub BinaryString : ℕ × ℕ × List ℕ → Result ℕ Refusal × List ℕ → Type 0
BinaryString (width, value, before) out = Answers (binary_string width value) before out

abbrev pub Message : ℕ × ℕ × ℕ × ℕ × List ℕ → Result ℕ Refusal × List ℕ → Type 0
Message (number, carried, start, width, before) out = Answers (message_of number carried start width) before out
