-- Two appenders, one after the other.
use Rattle.buffer.proofs.Appending.{and_then}
use Rattle.survey_reply.specs.Replies.{front}
use Rattle.texts.specs.Pool.{bytes}
use Rattle.survey_reply.proofs.put_front.Goals as goal

pub returns : goal.returns
unfolding front bytes
returns c = and_then c.put_label-next.ensures c.put_bytes.ensures
