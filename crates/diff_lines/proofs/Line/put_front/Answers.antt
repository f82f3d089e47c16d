-- The mark, then by the index.
use Rattle.buffer.proofs.Appending.{and_then}
use mathlib.Core.List.{append-nil}
use Rattle.display.proofs.Cases.{indent_top, indent_own}
use Rattle.texts.specs.Pool.{bytes}
use Rattle.diff_lines.specs.Lines.{front_at}
use Rattle.diff_lines.proofs.Line.put_front.Goals as goal

pub returns-then-self-lt-OWN : goal.returns-then-self-lt-OWN
unfolding front_at
returns-then-self-lt-OWN c =
    rw (indent_top c.args.self.index c.if-self-lt-OWN.true, append-nil c.args.self.mark.now) c.put_bytes-next.ensures

pub returns : goal.returns
unfolding front_at bytes
returns c =
    rw (indent_own c.args.self.index c.if-self-lt-OWN.false) (and_then c.put_bytes-next.ensures c.put_bytes.ensures)
