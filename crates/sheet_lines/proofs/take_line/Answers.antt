-- What was read stands in its line, and a code fits 16 bits.
use mathlib.Core.Path.{sym, ◌∙◌}
use native.Mathlib.Omega.{arith}
use Rattle.sheets.proofs.Theorems.{records-small}
use Rattle.sheet_lines.proofs.Laws.{taken-within}
use Rattle.sheet_lines.proofs.take_line.Goals as goal

pub text_start-start-requires : goal.text_start-start-requires
text_start-start-requires c = taken-within _ (sym c.read_number.ensures ∙ c.in-Ok.is)

pub overflow_cast-result : goal.overflow_cast-result
overflow_cast-result c = omega (arith, records-small _ (sym c.is_records.ensures ∙ c.if-not-is_records.false))
