-- What strict answers: the ordinary answer, or where that accepts, what the first record refuses that is not as strict asks.
use Rattle.std.specs.Prelude.{ℕ, Bool, true, false, cond, not, ◌&&◌, List, [], ◌∷◌, eqb}
use Rattle.promise.specs.Member.{member}
use Rattle.refusals.specs.Refusals.{no_refusal, passed}
use Rattle.refusals.specs.declared.Refusal.{Refusal}
use Rattle.records.specs.Kinds.{mark_number, mark_of}
use Rattle.records.specs.Rows.{row_kind}
use Rattle.records.specs.Sets.{list_of}
use Rattle.records.specs.declared.Record.{Record}
use Rattle.records.specs.declared.Row.{Row}
use Rattle.esr.specs.Decode.{answer_of, refused}
use Rattle.esr.specs.declared.Answer.{Answer}
use Rattle.texts.specs.Pool.{bytes}
use Rattle.words.specs.Words.{same}
use Rattle.strict.specs.Stricter.{Stricter, stricter, refusal_by}
use Rattle.strict.specs.declared.Profile.{Profile}
use Rattle.strict.specs.declared.Profile.TheVariants.{Ordinary, Strict, Nested}

-- a record is a row's: by its bits, its name and its mark
abbrev pub is_of : Row → Record → Bool
is_of r x =
    eqb x.start r.start
    && (eqb x.width r.width
    && (eqb x.name r.name
    && eqb (mark_number x.mark) (mark_number (mark_of (row_kind r)))))

-- a record is one that this line asks of, and is not as it asks
abbrev pub fails_by : Bool → Record → Stricter → Bool
fails_by nested x d = is_of d.row x && (not (nested && d.excused) && not (member x.value d.allowed))

unfoldable pub refusal_in : List Stricter → Bool → Record → Refusal
refusal_in [] nested x = no_refusal
refusal_in (d ∷ ds) nested x = cond (fails_by nested x d) (refusal_by d x.value) (refusal_in ds nested x)

abbrev pub record_refusal : Bool → Record → Refusal
record_refusal nested x = refusal_in stricter nested x

-- "high bits first": records run from high bits to low
unfoldable pub first_refusal : Bool → List Record → Refusal
first_refusal nested [] = no_refusal
first_refusal nested (x ∷ xs) = cond (passed (record_refusal nested x)) (first_refusal nested xs) (record_refusal nested x)

-- "Where only strict refuses, its checks run after all ordinary ones"
abbrev pub strictly : Bool → Answer → Answer
strictly nested a =
    cond (passed a.refusal && not (passed (first_refusal nested (list_of a.records)))) (refused (first_refusal nested (list_of a.records))) a

unfoldable pub strict_answer_of : Bool → ℕ → Answer
strict_answer_of nested esr = strictly nested (answer_of esr)

-- how values are read: ordinarily, or strictly, without nested virtualisation or with it
abbrev pub answer_by : Profile → ℕ → Answer
answer_by Ordinary esr = answer_of esr
answer_by Strict esr = strict_answer_of false esr
answer_by Nested esr = strict_answer_of true esr

-- what a program's option asks for
abbrev pub profile_asked : List ℕ → Profile
profile_asked option = cond (same option (bytes "--strict")) Strict (cond (same option (bytes "--nested")) Nested Ordinary)
