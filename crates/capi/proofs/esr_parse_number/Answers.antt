-- The number's own value, and its refusal in numbers.
use Rattle.capi.specs.Answers.{number_answer}
use Rattle.capi.proofs.esr_parse_number.Goals as goal

pub returns : goal.returns
unfolding number_answer
returns c = simp (c.number.ensures, c.parse_number-number.ensures)
