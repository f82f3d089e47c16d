-- A code of more than 16 bits is past the last text.
use mathlib.Core.Path.{sym}
use native.Mathlib.Omega.{arith}
use Rattle.sheets.proofs.Laws.{codes}
use Rattle.sheets.proofs.Theorems.{no_more}
use Rattle.sheets.proofs.is_records.Goals as goal

pub returns-in-Err : goal.returns-in-Err
returns-in-Err c = sym (no_more c.args.code (omega (arith, codes)))
