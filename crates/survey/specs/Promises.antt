-- What each public function promises. A promise takes what comes in, with what the lent table holds at entry, then what comes out, with what it holds
-- at exit.
use Rattle.std.specs.Prelude.{ℕ, List, Result, ◌≡◌}
use Rattle.refusals.specs.declared.Refusal.{Refusal}
use Rattle.strict.specs.declared.Profile.{Profile}
use Rattle.survey.specs.Surveys.{ordinary_of, survey_of}
use Rattle.survey.specs.declared.Tally.{Tally}

-- the counts of a run of values, read by a profile
abbrev pub Surveyed : Profile × List ℕ × List ℕ → Result Tally Refusal × List ℕ → Type 0
Surveyed (profile, values, before) r = r ≡ survey_of profile values before

-- the counts of the refusals 1 to 7
abbrev pub OrdinaryCounts : Tally → List ℕ → Type 0
OrdinaryCounts tally r = r ≡ ordinary_of tally
