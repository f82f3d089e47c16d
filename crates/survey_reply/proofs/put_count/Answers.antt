-- Three appenders, one after the other.
use Rattle.buffer.proofs.Appending.{and_then}
use Rattle.survey_reply.specs.Replies.{count_line, count_text}
use Rattle.texts.specs.Pool.{bytes}
use Rattle.survey_reply.proofs.put_count.Goals as goal

pub returns : goal.returns
unfolding count_line count_text bytes
returns c = and_then (and_then c.put_front-next.ensures c.put_number-next.ensures) c.put_bytes.ensures
