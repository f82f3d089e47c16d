-- Four appenders, one after the other.
use Rattle.buffer.proofs.Appending.{and_then}
use Rattle.entry_reply.specs.Replies.{entry_text}
use Rattle.texts.specs.Pool.{bytes}
use Rattle.entry_reply.proofs.put_sound.Goals as goal

pub returns : goal.returns
unfolding entry_text bytes
returns c =
    let head = and_then c.put_number_line-next.ensures c.put_number_line-next-2.ensures in
    and_then (and_then head c.put_body-next.ensures) c.put_listed.ensures
