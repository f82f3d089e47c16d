-- A character is counted from "0" or from "A": what the count says is computed for each of the 256 bytes.
use Rattle.std.proofs.Common.{◌+◌, ◌-◌, ◌%◌, ◌^◌, arith, rules}
use lib.Bits.{and_le_r}
use Rattle.number.proofs.Laws.{but_case, digit_decimal, digit_figure, digit_letter}
use Rattle.number.proofs.digit_of.Goals.{else-hex-via-then-hex+else-b-gt57, else-hex-via-else-hex}
use Rattle.number.proofs.digit_of.Goals as goal

pub overflow_add-result : goal.overflow_add-result
overflow_add-result c = omega (arith, and_le_r ((c.from-byte.result + (2 ^ 64 - c.from.result)) % 2 ^ 64) but_case)

pub returns-then-b-gt57 : goal.returns-then-b-gt57
returns-then-b-gt57 c =
    rw (c.if-hex.true, c.from-byte.ensures, c.from.ensures) (digit_letter c.args.b (search rules) c.if-b-gt57.true)

pub returns : goal.returns
returns c =
    rw (c.from-byte.ensures, c.from-2.ensures)
    (elim c.else-hex.branch [
      | else-hex-via-then-hex+else-b-gt57 w ↦ rw w.if-hex.true (digit_figure c.args.b (omega arith))
      | else-hex-via-else-hex w ↦ rw w.if-hex.false (digit_decimal c.args.b (search rules))
    ])
