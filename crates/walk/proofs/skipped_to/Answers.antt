-- Both subtractions wrap: by whether the numbers are equal.
use borrow.Author.Rules.{rules}
use Rattle.walk.proofs.Laws.{wrapped-is}
use Rattle.walk.proofs.skipped_to.Goals as goal

pub returns : goal.returns
returns c = wrapped-is c.args.last c.args.next (search rules) (search rules)
