-- The answer is what is made, in numbers: that of its refusal is asked for, the others are copied.
use Prim.Native.Nat.{ℕ}
use mathlib.Core.Path.{ap, refl}
use Rattle.std.specs.Prelude.{Ok, Err}
use Rattle.capi.specs.declared.NumberAnswer.{NumberAnswer}
use Rattle.refusals.specs.declared.Refusal.{Refusal}
use Rattle.capi.proofs.esr_make.Goals as goal

abbrev numbered : Refusal → ℕ → NumberAnswer
numbered f n = record { value = 0; carried = f.carries; refusal = n; start = f.start; width = f.width }

pub returns-in-Ok : goal.returns-in-Ok
returns-in-Ok c = (Ok c.in-Ok.value, c.in-Ok.ensures, refl)

pub returns-in-Err : goal.returns-in-Err
returns-in-Err c = let f = c.in-Err.refusal in (Err f, c.in-Err.ensures, ap (numbered f) c.number.ensures)
