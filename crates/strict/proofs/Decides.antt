-- Each promise of this crate decides its answer: it says what the answer is.
use Rattle.promise.specs.Promise.{Decides}
use Rattle.promise.proofs.Laws.{same}
use Rattle.strict.specs.Promises.{DecodedBy, DecodedStrictly, ProfileAsked}

pub decode_strict_decides : Decides DecodedStrictly
decode_strict_decides (esr, nested) a b = same

pub decode_by_decides : Decides DecodedBy
decode_by_decides (profile, esr) a b = same

pub profile_asked_decides : Decides ProfileAsked
profile_asked_decides option a b = same
