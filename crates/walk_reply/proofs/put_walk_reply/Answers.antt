-- By whether the walk is refused; if not, the lines of its entries, the counts and the end, one after the other.
use mathlib.Core.Path.{ap, ◌∙◌}
use Rattle.buffer.proofs.Appending.{and_then}
use Rattle.walk.specs.Walks.{walking}
use Rattle.walk_reply.proofs.Laws.{reply_refused, reply_whole, entries_told}
use Rattle.walk_reply.proofs.put_walk_reply.Goals as goal

pub put_entries-next-requires : goal.put_entries-next-requires
put_entries-next-requires c =
    let a = c.args in
    let is = c.walk.ensures ∙ ap (walking a.profile a.block.now) c.no_steps-steps.ensures in
    entries_told a.profile a.block.now _ is c.in-Ok.is

pub returns-in-Ok : goal.returns-in-Ok
returns-in-Ok c =
    let a = c.args in
    let is = c.walk.ensures ∙ ap (walking a.profile a.block.now) c.no_steps-steps.ensures in
    rw (← (reply_whole a.profile a.block.now _ is c.in-Ok.is))
    (and_then (and_then c.put_entries-next.ensures c.put_count_line-next.ensures) c.put_end_line.ensures)

pub returns-in-Err : goal.returns-in-Err
returns-in-Err c =
    let a = c.args in
    let is = c.walk.ensures ∙ ap (walking a.profile a.block.now) c.no_steps-steps.ensures in
    rw (reply_refused a.profile a.block.now _ is c.in-Err.is) c.put_refusal.ensures
