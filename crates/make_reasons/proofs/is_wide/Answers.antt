-- A one shifted up is a power of two.
use Rattle.make_reasons.proofs.Laws.{bit_at}
use Rattle.make_reasons.proofs.is_wide.Goals as goal

pub returns : goal.returns
returns c = bit_at c.args.width c.args.x c.requires
