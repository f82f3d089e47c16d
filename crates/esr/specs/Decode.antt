-- What the answer to a value is, by 01's tables: "First 37..64 must be 0, then the class is looked up, then the layout's checks in the
-- order given; the first failure answers."
use Rattle.std.specs.Prelude.{ℕ, cond, List, [], ◌∷◌, ◌++◌, map}
use Rattle.promise.specs.Member.{member}
use Rattle.refusals.specs.Refusals.{carrying, no_refusal, passed}
use Rattle.refusals.specs.declared.Reason.TheVariants.{InvalidEc}
use Rattle.refusals.specs.declared.Refusal.{Refusal}
use Rattle.records.specs.Bits.{field_of}
use Rattle.records.specs.Rows.{record_of, meets, refusal_of}
use Rattle.records.specs.Sets.{records_of}
use Rattle.records.specs.declared.Record.{Record}
use Rattle.records.specs.declared.Row.{Row}
use Rattle.tables.specs.Shape.{Table}
use Rattle.tables.specs.Applying.{rows_for, checks_for}
use Rattle.tables.specs.Tables.{reserved, top_rows, Served, layouts}
use Rattle.esr.specs.declared.Answer.{Answer}

-- the first of the rows that is not met answers
unfoldable pub first_failure : ℕ → List Row → Refusal
first_failure v [] = no_refusal
first_failure v (r ∷ rs) = cond (meets v r) (first_failure v rs) (refusal_of v r)

-- "A refusal's record set is empty"
unfoldable pub refused : Refusal → Answer
refused f = record { refusal = f; records = records_of [] }

unfoldable pub accepted : List Record → Answer
accepted l = record { refusal = no_refusal; records = records_of l }

-- a table's answer for a value and its ISS
unfoldable pub failure_for : Table → ℕ → Refusal
failure_for t iss = first_failure iss (checks_for t iss)

unfoldable pub records_for : Table → ℕ → ℕ → List Record
records_for t esr iss = map (record_of esr) (top_rows t.iss_rule) ++ map (record_of iss) (rows_for t iss)

unfoldable pub table_answer : Table → ℕ → ℕ → Answer
table_answer t esr iss = cond (passed (failure_for t iss)) (accepted (records_for t esr iss)) (refused (failure_for t iss))

-- the class is looked up among those that the layouts serve
abbrev pub class_of : ℕ → ℕ
class_of esr = field_of esr 26 6

abbrev pub iss_of : ℕ → ℕ
iss_of esr = field_of esr 0 25

unfoldable pub class_answer : List Served → ℕ → Answer
class_answer [] esr = refused (carrying InvalidEc (class_of esr))
class_answer (s ∷ ss) esr = cond (member (class_of esr) s.classes) (table_answer s.table esr (iss_of esr)) (class_answer ss esr)

unfoldable pub answer_of : ℕ → Answer
answer_of esr = cond (meets esr reserved) (class_answer layouts esr) (refused (refusal_of esr reserved))
