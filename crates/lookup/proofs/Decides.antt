-- Each promise of this crate decides its answer: it says what the answer is.
use Rattle.promise.specs.Promise.{Decides}
use Rattle.promise.proofs.Laws.{same}
use Rattle.lookup.specs.Promises.{LengthIn, LengthOf, Describes, TextCode, Has}

pub length_in_decides : Decides LengthIn
length_in_decides (starting, code) a b = same

pub length_of_decides : Decides LengthOf
length_of_decides code a b = same

pub describes_decides : Decides Describes
describes_decides (rule, value) a b = same

pub text_code_decides : Decides TextCode
text_code_decides (rule, value) a b = same

pub has_decides : Decides Has
has_decides (values, value) a b = same
