-- #101: what a survey counts. "Each count defined from the list itself and not from the others."
use Rattle.std.specs.Prelude.{ℕ, zero, suc, ◌+◌, ◌^◌, Bool, cond, not, ◌&&◌, List, [], ◌∷◌, eqb, leb, length, take, Result, Ok, Err}
use Rattle.refusals.specs.Refusals.{refusal_number, bare, passed}
use Rattle.refusals.specs.declared.Reason.TheVariants.{BadTable, LongRun}
use Rattle.refusals.specs.declared.Refusal.{Refusal}
use Rattle.refusals.specs.Values.{value_number}
use Rattle.esr.specs.Decode.{class_of}
use Rattle.strict.specs.Strict.{answer_by}
use Rattle.strict.specs.declared.Profile.{Profile}
use Rattle.survey.specs.declared.Tally.{Tally}

-- "accepted values of that class", as the caller has them read, ordinarily or strictly (#110)
unfoldable pub is_of_class : Profile → ℕ → ℕ → Bool
is_of_class profile class esr = passed (answer_by profile esr).refusal && eqb (class_of esr) class

-- "refused values by refusal number", by the place of the number among those that a value can be refused by
unfoldable pub is_refused_at : Profile → ℕ → ℕ → Bool
is_refused_at profile place esr = eqb (refusal_number (answer_by profile esr).refusal) (value_number place)

-- how many values of a list pass a test
unfoldable pub how_many : (ℕ → Bool) → List ℕ → ℕ
how_many passes [] = 0
how_many passes (v ∷ vs) = cond (passes v) 1 0 + how_many passes vs

-- the counts of n numbers from k on, each by its own test
unfoldable pub counts : (ℕ → ℕ → Bool) → ℕ → ℕ → List ℕ → List ℕ
counts is k zero vs = []
counts is k (suc n) vs = how_many (is k) vs ∷ counts is (suc k) n vs

-- "a lent table of 64 counts": one for each class
abbrev pub class_counts : Profile → List ℕ → List ℕ
class_counts profile vs = counts (is_of_class profile) 0 64 vs

-- "beside it, counts of refused values by refusal number 1 to 7", and by 24 and 25, which strict reading alone gives
abbrev pub refused_counts : Profile → List ℕ → List ℕ
refused_counts profile vs = counts (is_refused_at profile) 0 9 vs

-- those of 1 to 7
abbrev pub ordinary_of : Tally → List ℕ
ordinary_of t = take 7 t.refused

-- "18 if the lent table hasn't exactly 64 places, then 19 if the run has 2^32 or more values", and the table stays; else the counts, whatever
-- the table held
unfoldable pub survey_of : Profile → List ℕ → List ℕ → Result Tally Refusal × List ℕ
survey_of profile values before =
    cond (not (eqb (length before) 64)) (Err (bare BadTable), before)
    (cond (leb (2 ^ 32) (length values)) (Err (bare LongRun), before)
    (Ok (record { refused = refused_counts profile values }), class_counts profile values))
