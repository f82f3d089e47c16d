-- By the index: the top records have none.
use native.Mathlib.Omega.{arith}
use Rattle.buffer.proofs.Appending.{none}
use Rattle.display.proofs.Cases.{indent_top, indent_own}
use Rattle.texts.specs.Pool.{bytes}
use Rattle.display.proofs.put_indent.Goals as goal

pub returns-then-index-lt5 : goal.returns-then-index-lt5
returns-then-index-lt5 c = rw (indent_top c.args.index c.if-index-lt5.true) (none (omega arith))

pub returns : goal.returns
unfolding bytes
returns c = rw (indent_own c.args.index c.if-index-lt5.false) c.put_bytes.ensures
