-- Each promise of this crate decides the next offset and the buffer: it says what both are, and the maker's promises decide what is said.
use mathlib.Core.Path.{sym, ap₂, ◌∙◌}
use Rattle.make_reply.specs.Promises.{BadNumber, HelpReply, MakeReply, TooFew}
use Rattle.make_reply.specs.Replies.{make_text}
use Rattle.maker.proofs.Decides.{fitting_decides, make_decides}
use Rattle.promise.proofs.Laws.{same}
use Rattle.promise.specs.Promise.{Decides}

pub put_make_reply_decides : Decides MakeReply
put_make_reply_decides (before, at, class, il, iss2, leaves) a b p q =
    let m = make_decides (class, il, iss2, leaves) p.made q.made p.makes q.makes in
    let k = fitting_decides (class, leaves) p.index q.index p.fits q.fits in
    let t = ap₂ (make_text class il iss2 leaves) m k in
    p.puts.is ∙ rw t (sym q.puts.is)

pub put_help_reply_decides : Decides HelpReply
put_help_reply_decides (before, at, class) a b p q = same p.is q.is

pub put_bad_number_decides : Decides BadNumber
put_bad_number_decides (before, at, place, refusal) a b p q = same p.is q.is

pub put_too_few_decides : Decides TooFew
put_too_few_decides (before, at, count) a b p q = same p.is q.is
