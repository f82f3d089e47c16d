-- The text is measured; then it is written, or the buffer is too short.
use mathlib.Core.Path.{refl}
use Rattle.strings.proofs.Cases.{message-lent, message-small}
use Rattle.written.proofs.Kept.{exit, by_shortness, by_writing}
use Rattle.written.proofs.message_text.Goals as goal

pub returns-in_err-bytes : goal.returns-in_err-bytes
returns-in_err-bytes c =
    let a = c.args in
    let own = message-lent a.number a.carried a.start a.width
    (record { whole = c.pool_bytes-pool.ensures; each = c.text_starts-starts.ensures }) in
    by_shortness refl (message-small a.number a.carried a.start a.width) (rw own at c.put_message-measured.ensures)
    c.room_for.ensures c.in_err-bytes.was (exit c.from_residual.ensures)

pub returns : goal.returns
returns c =
    let a = c.args in
    let own = message-lent a.number a.carried a.start a.width
    (record { whole = c.pool_bytes-pool.ensures; each = c.text_starts-starts.ensures }) in
    by_writing refl (message-small a.number a.carried a.start a.width) (rw own at c.put_message-measured.ensures)
    c.room_for.ensures c.in_ok-bytes.was (rw own at c.put_message.ensures) refl
