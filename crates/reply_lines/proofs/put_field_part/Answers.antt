-- Nothing but for 1; of 1 four appenders, one after the other.
use native.Mathlib.Omega.{arith}
use borrow.Author.Rules.{rules}
use mathlib.Core.Bool.{true, false}
use mathlib.Core.Path.{◌≡◌}
use lib.Dec.{eqb}
use Rattle.refusals.specs.Refusals.{refusal_number}
use Rattle.buffer.proofs.Appending.{and_then, none}
use Rattle.reply_lines.specs.Lines.{field_part}
use Rattle.texts.specs.Pool.{bytes}
use Rattle.reply_lines.proofs.put_field_part.Goals as goal

pub returns-then-ne : goal.returns-then-ne
unfolding field_part
returns-then-ne c =
    let unnamed : eqb (refusal_number c.args.refusal) 1 ≡ false = search rules in
    rw unnamed (none (omega arith))

pub returns : goal.returns
unfolding field_part bytes
returns c =
    let named : eqb (refusal_number c.args.refusal) 1 ≡ true = search rules in
    rw named
    (and_then (and_then (and_then c.put_bytes-next.ensures c.put_number-next.ensures) c.put_bytes-next-2.ensures)
    c.put_number.ensures)
