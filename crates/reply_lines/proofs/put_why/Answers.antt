-- By whether the number is one of a message; of the project's own pool the message is the definition's.
use mathlib.Core.Path.{sym, ◌∙◌}
use Rattle.reply_lines.proofs.Cases.{why-message, why-own}
use Rattle.strings.proofs.Cases.{message-lent}
use Rattle.texts.proofs.Laws.{text-described}
use Rattle.texts.specs.Pool.{bytes_at}
use Rattle.texts.specs.Rules.{own_words}
use Rattle.reply_lines.proofs.put_why.Goals as goal

pub returns-then-describes : goal.returns-then-describes
returns-then-describes c =
    let f = c.args.refusal in
    let is = c.number-number.ensures in
    let own = message-lent c.number-number.result f.carries f.start f.width
    (record { whole = c.pool_bytes.ensures; each = c.text_starts.ensures }) in
    rw (why-message f c.number-number.result is (sym c.describes.ensures ∙ c.if-describes.true), ← own)
    c.put_message.ensures

pub returns : goal.returns
unfolding bytes_at
returns c =
    let is = text-described own_words.number c.number-number.result in
    rw (
      why-own c.args.refusal c.number-number.result c.number-number.ensures
          (sym c.describes.ensures ∙ c.if-describes.false),
      ← is,
    )
    (rw c.text_code-code.ensures at c.put_code.ensures)
