-- A caller's array, of bytes or of slots: "Accepted text fills the front of the buffer; the rest stays", and a
-- refusal's buffer is untouched.
use Rattle.std.specs.Prelude.{ℕ, cond, List, ◌++◌, leb, length, drop, Result, Ok, Err}
use Rattle.written.specs.Outcomes.{Outcome, answered, left}
use Rattle.refusals.specs.Refusals.{carrying, no_refusal}
use Rattle.refusals.specs.declared.Reason.TheVariants.{ShortBuffer}
use Rattle.refusals.specs.declared.Refusal.{Refusal}
use Rattle.capi.specs.Answers.{filled_of}
use Rattle.capi.specs.declared.Filled.{Filled}

abbrev pub front : {A : Type 0} → List A → List A → List A
front content before = content ++ drop (length content) before

abbrev pub refusing : {A : Type 0} → Refusal → List A → Filled × List A
refusing f before = (filled_of f 0, before)

-- 11 where there is less room than is needed, carrying what is needed
unfoldable pub filling : {A : Type 0} → List A → List A → Filled × List A
filling content before =
    cond (leb (length content) (length before))
    (filled_of no_refusal (length content), front content before)
    (refusing (carrying ShortBuffer (length content)) before)

-- what a function of the crates `written`, `listing` and `sheets` answers, in numbers: the bytes of a text, or a refusal
abbrev pub filled_by : Result ℕ Refusal → Filled
filled_by (Ok bytes) = filled_of no_refusal bytes
filled_by (Err f) = filled_of f 0

-- the same of what is asked for, and the buffer as it leaves it
unfoldable pub filled_with : Outcome → List ℕ → Filled × List ℕ
filled_with o before = (filled_by (answered o before), left o before)
