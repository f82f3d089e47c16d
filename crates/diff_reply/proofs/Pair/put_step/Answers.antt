-- The side that is next has its part put, and the law of a step says what is left.
use Rattle.diff_reply.proofs.Laws.{record_here, step}
use Rattle.diff_reply.proofs.Pair.put_step.Goals as goal

pub returns : goal.returns
returns c =
    let p = c.args.self in
    let t = c.args.turn in
    let few = c.requires.few in
    step c.requires c.next_side-side.ensures (record_here p.first.now t.first few.0)
    (record_here p.second.now t.second few.1) c.put_part.ensures c.taken-first.ensures.0 c.taken-first.ensures.1
