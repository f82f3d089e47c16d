-- Each promise decides the next offset and the buffer: a text is what is put, and the maker's reply decides.
use Prim.Native.Nat.{ℕ}
use mathlib.Core.List.{List}
use mathlib.Core.Path.{◌≡◌}
use Rattle.make_reply.proofs.Decides.{put_make_reply_decides}
use Rattle.promise.proofs.Laws.{same}
use Rattle.promise.specs.Promise.{Decides}
use Rattle.turn_reply.specs.Promises.{NotBoth, TurnReply}
use Rattle.turn_reply.specs.Turns.{Said, Turn, told, made, turn_of}

said-once : (t : Turn) (at : ℕ) (before : List ℕ) (a b : ℕ × List ℕ) → Said t (at, before) a → Said t (at, before) b → a ≡ b
said-once (told text) at before a b p q = same p.is q.is
said-once (made class il iss2 leaves) at before a b p q = put_make_reply_decides (before, at, class, il, iss2, leaves) a b p q

pub put_turn_reply_decides : Decides TurnReply
put_turn_reply_decides (before, at, esr, word, number) a b p q = said-once (turn_of esr word number) at before a b p q

pub put_not_both_decides : Decides NotBoth
put_not_both_decides (before, at, count) a b p q = same p.is q.is
