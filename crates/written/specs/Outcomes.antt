-- What a text function answers and leaves in the buffer lent to it: "Accepted text fills the front of the buffer; the
-- rest stays"; a refusal leaves it untouched. "11 ShortBuffer: text longer than the buffer; bytes needed."
use Rattle.std.specs.Prelude.{ℕ, cond, List, ◌++◌, ◌≡◌, leb, length, drop, Result, Ok, Err}
use Rattle.refusals.specs.Refusals.{carrying}
use Rattle.refusals.specs.declared.Reason.TheVariants.{ShortBuffer}
use Rattle.refusals.specs.declared.Refusal.{Refusal}

-- what is asked for, before the room is looked at
pub data Outcome : Type 0 where
  refused : Refusal → Outcome
  text : List ℕ → Outcome

-- a refusal: no bytes are written
abbrev pub refusal : Refusal → Result ℕ Refusal
refusal f = Err f

unfoldable pub answered : Outcome → List ℕ → Result ℕ Refusal
answered (refused f) before = refusal f
answered (text t) before =
    cond (leb (length t) (length before)) (Ok (length t)) (refusal (carrying ShortBuffer (length t)))

unfoldable pub left : Outcome → List ℕ → List ℕ
left (refused f) before = before
left (text t) before = cond (leb (length t) (length before)) (t ++ drop (length t) before) before

-- the answer r and the buffer after the call, of an outcome and the buffer before it
abbrev pub Answers : Outcome → List ℕ → Result ℕ Refusal × List ℕ → Type 0
Answers o before (r, after) = (r ≡ answered o before) × (after ≡ left o before)
