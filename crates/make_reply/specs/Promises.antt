-- What each public function promises: of what comes in and what the buffer holds before, the next offset and what the buffer holds after.
use Rattle.std.specs.Prelude.{ℕ, List, Option, Result}
use Rattle.buffer.specs.Appending.{Appends}
use Rattle.make_reply.specs.Replies.{bad_number, help_text, make_text, too_few}
use Rattle.maker.specs.Promises.{Fitting, Makes}
use Rattle.refusals.specs.declared.Refusal.{Refusal}

-- what the maker promises, said
pub record Said (class il iss2 : ℕ) (leaves : List ℕ) (from : ℕ × List ℕ) (out : ℕ × List ℕ) : Type 0 where
  pub made : Result ℕ Refusal
  pub index : Option ℕ
  pub makes : Makes (class, il, iss2, leaves) made
  pub fits : Fitting (class, leaves) index
  pub puts : Appends (make_text class il iss2 leaves made index) from out

abbrev pub MakeReply : List ℕ × ℕ × ℕ × ℕ × ℕ × List ℕ → ℕ × List ℕ → Type 0
MakeReply (before, at, class, il, iss2, leaves) out = Said class il iss2 leaves (at, before) out

abbrev pub HelpReply : List ℕ × ℕ × ℕ → ℕ × List ℕ → Type 0
HelpReply (before, at, class) out = Appends (help_text class) (at, before) out

abbrev pub BadNumber : List ℕ × ℕ × ℕ × Refusal → ℕ × List ℕ → Type 0
BadNumber (before, at, place, refusal) out = Appends (bad_number place refusal) (at, before) out

abbrev pub TooFew : List ℕ × ℕ × ℕ → ℕ × List ℕ → Type 0
TooFew (before, at, count) out = Appends (too_few count) (at, before) out
