-- By whether the value is refused; the code is that of the class in the rule's texts.
use Rattle.refusals.proofs.Cases.{passed-is, refused-is}
use mathlib.Core.Path.{◌∙◌, ap}
use Rattle.esr.specs.Decode.{class_of}
use Rattle.texts.specs.Rules.{class_name}
use Rattle.texts.proofs.Laws.{text-described}
use Rattle.texts.specs.Pool.{bytes_at, text_code}
use Rattle.walk_lines.specs.Lines.{meaning}
use Rattle.walk_lines.proofs.put_meaning.Goals as goal

pub returns-then-is_refused : goal.returns-then-is_refused
unfolding meaning
returns-then-is_refused c = rw (refused-is c.args.refusal c.is_refused.ensures c.if-is_refused.true) c.put_why.ensures

pub returns : goal.returns
unfolding meaning bytes_at
returns c =
    let a = c.args in
    let is = text-described class_name.number (class_of a.esr) in
    let code = c.text_code-code.ensures ∙ ap (text_code class_name.number) c.field.ensures in
    rw (passed-is a.refusal c.is_refused.ensures c.if-is_refused.false, ← is) (rw code at c.put_code.ensures)
