-- What is asked for by each function that fills the front of a buffer, of its inputs alone: the refusal, or the text. "12 and 13 come
-- before 11."
use Rattle.std.specs.Prelude.{ℕ, ◌+◌, ◌^◌, Bool, cond, not, ◌&&◌, ◌||◌, eqb, ltb, leb}
use Rattle.refusals.specs.Refusals.{bare}
use Rattle.refusals.specs.declared.Reason.TheVariants.{BadField}
use Rattle.strings.specs.Fields.{value_text, binary_text}
use Rattle.strings.specs.Messages.{message_text, has_message}
use Rattle.strings.specs.declared.Form.{Form}
use Rattle.strings.specs.declared.Form.TheVariants.{Value, Binary}
use Rattle.written.specs.Outcomes.{Outcome, refused, text}

-- "width not 1..64, value not below 2^width": 12
unfoldable pub fits : ℕ → ℕ → Bool
fits width value = leb 1 width && (leb width 64 && ltb value (2 ^ width))

unfoldable pub value_string : ℕ → ℕ → Outcome
value_string width value = cond (fits width value) (text (value_text width value)) (refused (bare BadField))

unfoldable pub binary_string : ℕ → ℕ → Outcome
binary_string width value = cond (fits width value) (text (binary_text width value)) (refused (bare BadField))

-- either, by which of the two it is. No promise rests on this: one private function serves both
abbrev pub string_of : Form → ℕ → ℕ → Outcome
string_of Value width value = value_string width value
string_of Binary width value = binary_string width value

-- #105: "for 1 answers 12 if the width isn't 1..64, start + width is above 64 or the value isn't below 2^width"
unfoldable pub names_field : ℕ → ℕ → ℕ → Bool
names_field start width value = fits width value && leb (start + width) 64

-- "The message call takes both, ignores them for 2 to 7"
unfoldable pub message_of : ℕ → ℕ → ℕ → ℕ → Outcome
message_of number carried start width =
    cond (has_message number && (not (eqb number 1) || names_field start width carried))
    (text (message_text number carried start width))
    (refused (bare BadField))
