-- Each promise of this crate decides its answer: it says what the answer is.
use Rattle.promise.specs.Promise.{Decides}
use Rattle.promise.proofs.Laws.{same}
use Rattle.refusals.specs.Promises.{Carrying, Checked, IsRefused, Number, ValueNumber, ValuePlace}

pub Reason-number_decides : Decides Number
Reason-number_decides reason a b = same

pub Refusal-carrying_decides : Decides Carrying
Refusal-carrying_decides (reason, carries) a b = same

pub Refusal-number_decides : Decides Number
Refusal-number_decides reason a b = same

pub Refusal-is_refused_decides : Decides IsRefused
Refusal-is_refused_decides refusal a b = same

pub Refusal-check_decides : Decides Checked
Refusal-check_decides refusal a b = same

pub value_number_decides : Decides ValueNumber
value_number_decides place a b = same

pub value_place_decides : Decides ValuePlace
value_place_decides number a b = same
