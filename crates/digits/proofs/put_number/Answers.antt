-- As many digits as are the fewest.
use Rattle.digits.proofs.put_number.Goals as goal

pub returns : goal.returns
returns c = rw (← c.fewest.ensures) c.put_digits.ensures
