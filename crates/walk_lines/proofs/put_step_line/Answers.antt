-- By what the step is; none says nothing.
use borrow.Author.Rules.{rules}
use Rattle.buffer.proofs.Appending.{none}
use Rattle.texts.specs.Pool.{bytes}
use Rattle.walk_lines.proofs.Laws.{step-none, step_same, step_lost}
use Rattle.walk_lines.proofs.put_step_line.Goals as goal

pub returns-then-skipped-eq0 : goal.returns-then-skipped-eq0
returns-then-skipped-eq0 c = rw (step-none c.args.skipped c.if-skipped-eq0.true) (none (search rules))

pub returns-then-skipped-eq-SAME : goal.returns-then-skipped-eq-SAME
unfolding bytes
returns-then-skipped-eq-SAME c =
    rw (step_same c.args.skipped c.if-skipped-eq0.false c.if-skipped-eq-SAME.true) c.put_bytes.ensures

pub returns : goal.returns
unfolding bytes
returns c =
    rw (step_lost c.args.skipped c.if-skipped-eq0.false c.if-skipped-eq-SAME.false) c.put_number_line.ensures
