-- An array of zeros, the steps written to its front, says what the steps say; and the whole reply, by whether the walk is
-- refused.
use Prim.Native.Nat.{ℕ, zero, suc}
use mathlib.Core.List.{List, [], ◌∷◌, ◌++◌}
use mathlib.Core.Path.{◌≡◌, refl, sym, ap, ap₂, ◌∙◌}
use lib.ListN.{length, get_or, drop, replicate, length-replicate}
use Rattle.buffer.proofs.InOrder.{each_same}
use Rattle.buffer.specs.InOrder.{in_order}
use Rattle.entry.specs.declared.Entry.{Entry}
use Rattle.refusals.specs.Refusals.{passed}
use Rattle.refusals.specs.declared.Refusal.{Refusal}
use Rattle.std.specs.Prelude.{Result, Ok, Err}
use Rattle.reply_lines.specs.Lines.{refusal_line}
use Rattle.strict.specs.declared.Profile.{Profile}
use Rattle.walk.proofs.Laws.{refusal-told, walk_passed}
use Rattle.walk.specs.Walks.{entries_of, steps_in, walk_refusal, walked, walking}
use Rattle.walk.specs.declared.Walked.{Walked}
use Rattle.walk_lines.specs.Lines.{count_line, end_line}
use Rattle.walk_reply.specs.Replies.{lines_at, step_room, walk_reply}

-- zeros behind the steps say nothing
zeros : (n k i : ℕ) → ◌≡◌ {A = ℕ} (get_or (drop k (replicate n 0)) i 0) 0
zeros zero zero i = refl
zeros zero (suc k) i = refl
zeros (suc n) zero zero = refl
zeros (suc n) zero (suc i) = zeros n zero i
zeros (suc n) (suc k) i = zeros n k i

behind : (a z : List ℕ) → ((i : ℕ) → get_or z i 0 ≡ 0) → (i : ℕ) → get_or (a ++ z) i 0 ≡ get_or a i 0
behind [] z h i = h i
behind (x ∷ a) z h zero = refl
behind (x ∷ a) z h (suc i) = behind a z h i

pub same_lines : (profile : Profile) (a : List ℕ) (n : ℕ) (es : List Entry)
    → in_order (lines_at profile (a ++ drop (length a) (replicate n 0))) es ≡ in_order (lines_at profile a) es
unfolding lines_at
same_lines profile a n es =
    each_same (λ (i : ℕ) (e : Entry). rw (behind a (drop (length a) (replicate n 0)) (zeros n (length a)) i)) 0 es

-- The whole reply, of what a walk into an array of zeros answers and leaves.

module _ (profile : Profile) (s after : List ℕ) {r : Result Walked Refusal}
    (is : (r, after) ≡ walking profile s (replicate step_room 0))
  where
    room : walk_refusal s (length {A = ℕ} (replicate step_room 0)) ≡ walk_refusal s step_room
    room = ap (walk_refusal s) (length-replicate {A = ℕ} step_room 0)

    pub reply_refused : {f : Refusal} → r ≡ Err f → walk_reply profile s ≡ refusal_line f
    unfolding walk_reply
    reply_refused e =
        let t = refusal-told profile s (replicate step_room 0) after is e in
        rw (sym (ap passed room) ∙ t.1) (sym (ap refusal_line (t.0 ∙ room)))

    pub entries_told : {w : Walked} → r ≡ Ok w → w.entries ≡ length (entries_of s)
    unfolding walked
    entries_told e = ap (λ (w : Walked). w.entries) (walk_passed profile s (replicate step_room 0) after is e).1

    pub reply_whole : {w : Walked} → r ≡ Ok w
        → in_order (lines_at profile after) (entries_of s) ++ count_line w.entries w.decoded
        ++ end_line (length s) w.offset w.ended
        ≡ walk_reply profile s
    unfolding walked walk_reply
    reply_whole e =
        let t = walk_passed profile s (replicate step_room 0) after is e in
        ap₂ (λ (w : Walked) (l : List ℕ). in_order (lines_at profile l) (entries_of s)
        ++ count_line w.entries w.decoded ++ end_line (length s) w.offset w.ended) t.1 t.2
        ∙ rw (same_lines profile (steps_in s) step_room (entries_of s), sym (ap passed room) ∙ t.0)
