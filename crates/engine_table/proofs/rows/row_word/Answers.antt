-- Each arm is the number that is computed from the tables for its index, which Rattle finds; past the last there is none.
use native.Mathlib.Omega.{arith}
use Rattle.engine_table.proofs.Laws.{past-rows}
use Rattle.engine_table.proofs.rows.row_word.Goals as goal

pub returns-in_default : goal.returns-in_default
returns-in_default c = past-rows c.args.index (omega arith)
