-- What the promises come to: a line that comes in parts has the number of the whole line, whatever is done with its rest. By induction over the bytes of a
-- part.
use Prim.Native.Nat.{ℕ, ◌+◌}
use mathlib.Core.Bool.{Bool, true, false, cond, not, ◌&&◌}
use mathlib.Core.List.{List, [], ◌∷◌, ◌++◌}
use mathlib.Core.Path.{◌≡◌, refl, sym, ap, ◌∙◌}
use native.Mathlib.Omega.{arith}
use lib.Dec.{T, eqb, ltb}
use lib.ListN.{length}
use Rattle.line_reader.proofs.Splitting.{longer-line}
use Rattle.line_reader.specs.Lines.{line_feed, part_of, one_line, line_number, finish_by}
use Rattle.line_reader.specs.declared.LinePart.{LinePart}
use Rattle.line_reader.specs.declared.Rest.{Rest}
use Rattle.line_reader.specs.declared.Rest.TheVariants.{Whole, Skipped}
use Rattle.number.proofs.Stops.{steps_before, steps_whole}
use Rattle.number.proofs.Theorems.{open_text, steps_append}
use Rattle.number.specs.Steps.{start, step_of, handed_on, steps_of, has_character}
use Rattle.number.specs.declared.NumberState.{NumberState}
use Rattle.promise.proofs.Tests.{is_true}

-- what is read of a line does not depend on where the input is cut
pub in_parts : (st : NumberState) (at : ℕ) (p q : List ℕ) → T (one_line p) → part_of st at (p ++ q) ≡ part_of (steps_of st p) (at + length p) q
unfolding part_of handed_on one_line
in_parts st at [] q t = ap (λ (n : ℕ). part_of st n q) (omega arith)
in_parts st at (b ∷ p) q t =
    by_feed (eqb b line_feed) t
    (λ u. in_parts (step_of st b) (at + 1) p q u ∙ ap (λ (n : ℕ). part_of (steps_of (step_of st b) p) n q) (omega arith))
  where
    by_feed : (f : Bool) → T (not f && one_line p)
        → (T (one_line p) → part_of (step_of st b) (at + 1) (p ++ q) ≡ part_of (steps_of (step_of st b) p) (at + length (b ∷ p)) q)
        → cond f (record { state = st; next = at + 1; ended = true }) (part_of (step_of st b) (at + 1) (p ++ q))
        ≡ part_of (steps_of (step_of st b) p) (at + length (b ∷ p)) q
    by_feed true u more = elim u [ ]
    by_feed false u more = more u

read_by_steps : (rest : Rest) (s : List ℕ) → finish_by rest (steps_of start s) ≡ line_number rest s
read_by_steps Whole s = steps_whole s
read_by_steps Skipped s = steps_before s

-- a line whose first bytes came in earlier parts, up to its line feed: its number is that of all its bytes
pub line-number : (rest : Rest) (p q after : List ℕ) (at : ℕ) → T (one_line q)
    → finish_by rest (part_of (steps_of start p) at (q ++ (line_feed ∷ after))).state ≡ line_number rest (p ++ q)
unfolding part_of
line-number rest p q after at t =
    ap (λ (r : LinePart). finish_by rest r.state) (in_parts (steps_of start p) at q (line_feed ∷ after) t)
    ∙ ap (finish_by rest) (sym (steps_append start p q))
    ∙ read_by_steps rest (p ++ q)

-- A line that is being read, for a caller that takes byte after byte: its state is that of the bytes taken of it so far.

abbrev pub Reads : NumberState → List ℕ → Type 0
Reads st line = T (one_line line) × (st ≡ steps_of start line)

pub begun : Reads start []
unfolding handed_on one_line
begun = (tt, refl)

pub one_byte-more : (st : NumberState) (line : List ℕ) (b : ℕ) → Reads st line → eqb b line_feed ≡ false → Reads (step_of st b) (line ++ (b ∷ []))
unfolding handed_on
one_byte-more st line b r n =
    (longer-line line b r.0 (is_true (ap not n)), ap (λ (s : NumberState). step_of s b) r.1 ∙ sym (steps_append start line (b ∷ [])))

-- what is asked of it at its end
module _ (st : NumberState) (line : List ℕ) (r : Reads st line) where
  pub finished : (rest : Rest) → finish_by rest st ≡ line_number rest line
  finished rest = ap (finish_by rest) r.1 ∙ read_by_steps rest line

  pub opened : has_character st.stage ≡ ltb 0 (length line)
  opened = ap (λ (s : NumberState). has_character s.stage) r.1 ∙ open_text line
