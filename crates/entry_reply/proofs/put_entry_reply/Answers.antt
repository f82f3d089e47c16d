-- By whether the entry is refused.
use Rattle.entry.specs.Entries.{Part}
use Rattle.entry_reply.specs.Replies.{told, entry_reply}
use mathlib.Core.Path.{ap}
use Rattle.entry_reply.proofs.put_entry_reply.Goals as goal

pub returns-in-Ok : goal.returns-in-Ok
unfolding entry_reply told
returns-in-Ok c =
    rw (← c.read_entry.ensures, c.in-Ok.is, ← (ap (λ (x : Part). x.bytes) c.entry_body.ensures)) c.put_sound.ensures

pub returns-in-Err : goal.returns-in-Err
unfolding entry_reply told
returns-in-Err c = rw (← c.read_entry.ensures, c.in-Err.is) c.put_refusal.ensures
