-- Each promise of this crate decides its answer: it says what the answer and the table are.
use Rattle.promise.specs.Promise.{Decides}
use Rattle.promise.proofs.Laws.{same}
use Rattle.survey.specs.Promises.{OrdinaryCounts, Surveyed}

pub survey_decides : Decides Surveyed
survey_decides (profile, values, before) a b = same

pub Tally-ordinary_decides : Decides OrdinaryCounts
Tally-ordinary_decides tally a b = same
