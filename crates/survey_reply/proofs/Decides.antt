-- Each promise of this crate decides its answer: it says what the answer is.
use Rattle.promise.proofs.Laws.{same}
use Rattle.promise.specs.Promise.{Decides}
use Rattle.survey_reply.specs.Promises.{CountAdded, CountRead, RunAdded, SurveyPut}

pub put_survey_decides : Decides SurveyPut
put_survey_decides (before, at, totals, all) a b p q = same p.is q.is

pub read_count_decides : Decides CountRead
read_count_decides line a b = same

pub add_count_decides : Decides CountAdded
add_count_decides (totals, place, count) a b = same

pub add_run_decides : Decides RunAdded
add_run_decides (totals, counts, refused, none) a b = same
