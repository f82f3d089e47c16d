-- By whether the index is one of the top.
use Rattle.record_lines.proofs.Cases.{depth_top, depth_own}
use Rattle.texts.specs.Pool.{bytes}
use Rattle.record_lines.proofs.put_depth.Goals as goal

pub returns-then-index-lt-TOP : goal.returns-then-index-lt-TOP
unfolding bytes
returns-then-index-lt-TOP c = rw (depth_top c.args.index c.if-index-lt-TOP.true) c.put_bytes.ensures

pub returns : goal.returns
unfolding bytes
returns c = rw (depth_own c.args.index c.if-index-lt-TOP.false) c.put_bytes-2.ensures
