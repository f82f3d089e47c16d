-- By what the key and its place promise, under the one rule that asks for them.
use mathlib.Core.Path.{ap, sym, ◌∙◌}
use mathlib.Core.Bool.{Bool, cond}
use borrow.Author.Tests.{eq-eqb, ne_eqb}
use Rattle.registers.specs.Registers.{registers, place_in}
use Rattle.texts.specs.Rules.{system_register}
use Rattle.records.specs.Subjects.{key_of, subject}
use Rattle.records.proofs.subject.Goals as goal

pub returns-then-rule-ne-SYSTEM_REGISTER : goal.returns-then-rule-ne-SYSTEM_REGISTER
unfolding subject
returns-then-rule-ne-SYSTEM_REGISTER c =
    let a = c.args in
    sym
    (ap (λ (b : Bool). cond b (place_in registers (key_of a.value)) a.value)
    (ne_eqb a.rule system_register.number c.if-rule-ne-SYSTEM_REGISTER.true))

pub returns : goal.returns
unfolding subject
returns c =
    let a = c.args in
    c.place.ensures
    ∙ ap (place_in registers) c.key.ensures
    ∙ sym
    (ap (λ (b : Bool). cond b (place_in registers (key_of a.value)) a.value)
    (eq-eqb a.rule system_register.number c.if-rule-ne-SYSTEM_REGISTER.false))
