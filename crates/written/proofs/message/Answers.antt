-- The number has a message or is refused; of 2 to 7 the bits do not matter, and those of 1 are of a field or are
-- refused.
use mathlib.Core.Path.{sym, ◌∙◌}
use native.Mathlib.Omega.{arith}
use Rattle.written.proofs.Answers.{message_no, message-other, message_badly, message-named}
use Rattle.written.proofs.Kept.{by-refusal}
use Rattle.written.proofs.Widths.{field-small}
use Rattle.written.proofs.message.Goals as goal

pub returns-then-not-describes : goal.returns-then-not-describes
returns-then-not-describes c =
    by-refusal (message_no _ _ _ _ (sym c.describes.ensures ∙ c.if-not-describes.true)) c.refused.ensures

pub returns-then-number-ne-RES0 : goal.returns-then-number-ne-RES0
returns-then-number-ne-RES0 c =
    let a = c.args in
    let has = sym c.describes.ensures ∙ c.if-not-describes.false in
    rw (message-other a.number a.carried a.start a.width has c.if-number-ne-RES0.true) c.message_text.ensures

pub returns-then-not-names_field : goal.returns-then-not-names_field
returns-then-not-names_field c =
    let has = sym c.describes.ensures ∙ c.if-not-describes.false in
    by-refusal
    (message_badly _ _ _ _ has (omega (arith, c.if-number-ne-RES0.false))
    (sym c.names_field.ensures ∙ c.if-not-names_field.true)) c.refused-then-not-names_field.ensures

pub overflow_cast-start : goal.overflow_cast-start
overflow_cast-start c = omega (arith, field-small _ _ _ (sym c.names_field.ensures ∙ c.if-not-names_field.false))

pub overflow_cast-width : goal.overflow_cast-width
overflow_cast-width c = omega (arith, field-small _ _ _ (sym c.names_field.ensures ∙ c.if-not-names_field.false))

pub returns : goal.returns
returns c =
    let a = c.args in
    let has = sym c.describes.ensures ∙ c.if-not-describes.false in
    rw (message-named a.number a.carried a.start a.width has (omega (arith, c.if-number-ne-RES0.false))
    (sym c.names_field.ensures ∙ c.if-not-names_field.false)) c.message_text-2.ensures
