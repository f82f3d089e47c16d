-- The project's own text, written whole, since there is room for it.
use native.Mathlib.Omega.{arith}
use Rattle.buffer.proofs.Appending.{written}
use Rattle.texts.proofs.Laws.{text-short}
use Rattle.capi.proofs.write_text.Goals as goal

pub returns : goal.returns
returns c = written c.put_code.ensures (omega (arith, text-short c.args.code)) c.requires
