-- What is lent is the project's own pool, so the text is the code's.
use Rattle.buffer.proofs.Lent.{lent-text}
use Rattle.buffer.proofs.put_code.Goals as goal

pub returns : goal.returns
returns c =
    rw (← (lent-text c.args.code (record { whole = c.pool_bytes-pool.ensures; each = c.text_starts-starts.ensures })))
    c.put_text.ensures
